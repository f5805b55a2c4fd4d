-- The lines of a script that was read are few, and each of them lets few ticks pass.
use Rattle.std.proofs.Common.{◌≡◌, ℕ, ◌+◌, ◌*◌, ◌≤◌, ◌<◌, Bool, false, inl, inr, List, [], ◌∷◌, Ok, subst, sym, arith}
use Rattle.std.specs.Str.Lines.{lines}
use Rattle.std.proofs.lemmas.List.Sums.{sum_by-cons}
use Rattle.frang_base.specs.declared.limits.TheConstants.{RUN_TICKS_END}
use Rattle.frang_base.specs.declared.op.HostOp.TheVariants as host
use Rattle.frang_base.specs.declared.op.What.{What}
use Rattle.frang_base.specs.declared.op.What.TheVariants.{Server, Host}
use Rattle.frang_base.specs.declared.script.Line.{Line}
use Rattle.tree_definitions.specs.Live.{ticks_of}
use Rattle.tree_definitions.specs.Transcript.{is_halt}
use Rattle.script_definitions.specs.ScriptText.{script_of}
use Rattle.script_definitions.specs.ScriptGrammar.{IsProperWhat, AreLines}
use Rattle.script_definitions.specs.Ticks.{all_ticks}
use Rattle.script_definitions.proofs.JudgedLaws.{line_of, text_sound}

-- a line
few_of : (who : ℕ) (what : What) → IsProperWhat who what → ticks_of what ≤ 10000
few_of who (Server o) h = omega arith
few_of who (Host (host.Tick n)) h = h.2
few_of who (Host host.Barrier) h = omega arith
few_of who (Host host.Halt) h = omega arith

-- lines from a number on, which are numbered to 65,536
few_from : (number : ℕ) (halted : Bool) (ls : List (List ℕ)) (script : List Line) → number ≤ 65537 → AreLines number halted ls script → all_ticks script + 10000 * number ≤ 655370000
few_from number halted [] script small h = subst (λ s. all_ticks s + 10000 * number ≤ 655370000) (sym h) (omega arith)
few_from number halted (line ∷ ls) script small (few, inl h) = let rest = few_from (number + 1) halted ls script (omega arith) h.1 in omega arith
few_from number halted (line ∷ ls) script small (few, inr h) =
    let rest = few_from (number + 1) (is_halt h.0.what) ls h.1 (omega arith) h.5 in
    let own = few_of h.0.who.0 h.0.what h.4.2.0 in
    subst (λ s. all_ticks s + 10000 * number ≤ 655370000) (sym h.2) (omega (arith, sum_by-cons (λ (l : Line). ticks_of l.what) (line_of number h.0) h.1))

pub few_ticks : (bytes : List ℕ) (script : List Line) → script_of bytes ≡ Ok script → all_ticks script < RUN_TICKS_END
few_ticks bytes script e = let all = few_from 1 false (lines bytes) script (omega arith) (text_sound bytes script e).1 in omega arith
