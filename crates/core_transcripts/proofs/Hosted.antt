-- A line of the host in a script that was read asks what a host is asked: by the grammar the other lines are of servers, 0 to 15.
use Rattle.std.proofs.Common.{ℕ, ◌≡◌, ◌≤◌, ◌+◌, inl, inr, Bool, true, false, not, ◌||◌, ◌==◌, IsTrue, List, [], ◌∷◌, nat_eq, refl, sym, subst, arith}
use Rattle.std.proofs.lemmas.Bool.{and_from, eqb-true}
use Rattle.std.specs.List.{list_all}
use Rattle.frang_base.specs.declared.op.What.{What}
use Rattle.frang_base.specs.declared.op.What.TheVariants.{Server, Host}
use Rattle.frang_base.specs.declared.script.Line.{Line}
use Rattle.script_definitions.specs.ScriptGrammar.{AreLines, IsProperWhat}
use Rattle.tree_definitions.specs.Transcript.{is_halt}
use Rattle.core_definitions.specs.Scripts.{host_party}
use Rattle.core_transcripts.specs.Transcripts.{is_host_what, is_hosted}

no_host : (who : ℕ) → who ≤ 15 → who ≡ host_party → ⊥
no_host who h e = absurd (omega (arith, h, e))

asked_hosted : (who : ℕ) (w : What) → IsProperWhat who w → IsTrue (not (who == host_party) || is_host_what w)
asked_hosted who (Server o) p = go (nat_eq who host_party) refl
  where
    go : (b : Bool) → nat_eq who host_party ≡ b → IsTrue (not b || false)
    go true e = absurd (no_host who p.0 (eqb-true who host_party e))
    go false e = refl
asked_hosted who (Host h) p = go (nat_eq who host_party)
  where
    go : (b : Bool) → IsTrue (not b || true)
    go true = refl
    go false = refl

pub lines_hosted : (number : ℕ) (halted : Bool) (ls : List (List ℕ)) (script : List Line) → AreLines number halted ls script → IsTrue (list_all is_hosted script)
lines_hosted number halted [] script h = subst (λ s. IsTrue (list_all is_hosted s)) (sym h) refl
lines_hosted number halted (line ∷ ls) script (few, inl h) = lines_hosted (number + 1) halted ls script h.1
lines_hosted number halted (line ∷ ls) script (few, inr h) =
    subst (λ s. IsTrue (list_all is_hosted s)) (sym h.2)
    (and_from (not (h.0.who.0 == host_party) || is_host_what h.0.what) (list_all is_hosted h.1) (asked_hosted h.0.who.0 h.0.what h.4.2.0)
    (lines_hosted (number + 1) (is_halt h.0.what) ls h.1 h.5))
