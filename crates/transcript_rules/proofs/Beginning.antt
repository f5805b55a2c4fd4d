-- What the code has of a script of which nothing is said.
use Rattle.std.proofs.Common.{◌≡◌, ◌<◌, ℕ, Bool, true, false, Some, List, [], length, replicate, drop, slice_get, refl, sym, ◌∙◌, ap, subst, arith}
use Rattle.std.specs.Ordering.{nat_cmp}
use Rattle.std.specs.BTreeSet.{BTreeSet, IsEmpty, contains}
use Rattle.std.proofs.lemmas.List.{get_or-replicate, length-replicate}
use Rattle.std.proofs.lemmas.Option.{get_or_from_slice_get, slice_get_within}
use Rattle.frang_base.specs.declared.script.Line.{Line}
use Rattle.transcript_rules.specs.declared.phases.Phase.TheVariants as phase
use Rattle.transcript_rules.specs.declared.phases.Debt.TheVariants as debt
use Rattle.transcript_rules.specs.declared.phases.Party.{Party}
use Rattle.transcript_rules.specs.Tells.{AscendFrom, IsParty, Tells}

-- a server at first
abbrev pub first_party : Party
first_party = record { phase = phase.Off; debt = debt.Free; may_die = false; just_died = false; under_recovery = false; dirty = false; next = 0 }

each_first : (script : List Line) (granted : Bool) (who : ℕ) (p : Party) → slice_get (replicate 256 first_party) who ≡ Some p → IsParty script granted [] who p
each_first script granted who p is =
    let within : who < 256 = subst (λ n. who < n) (length-replicate 256 first_party) (slice_get_within (replicate 256 first_party) who p is) in
    let same : first_party ≡ p = sym (get_or-replicate 256 who first_party p within) ∙ get_or_from_slice_get (replicate 256 first_party) who p p is in
    subst (λ (q : Party). IsParty script granted [] who q) same (record { state = refl; dirty = refl; next = refl })

pub nothing_told : (script : List Line) (granted : Bool) (parties : List Party) (answered : BTreeSet ℕ) → AscendFrom 0 script → parties ≡ replicate 256 first_party
    → IsEmpty answered → Tells script granted [] parties answered 0 0 false false 0
nothing_told script granted parties answered up all none = record {
  ascend = up;
  count = ap length all ∙ length-replicate 256 first_party;
  each = subst (λ (ps : List Party). (who : ℕ) (p : Party) → slice_get ps who ≡ Some p → IsParty script granted [] who p) (sym all) (each_first script granted);
  marked = λ n. ap (λ keys. contains nat_cmp (record { keys = keys }) n) none;
  hosts_passed = refl;
  all_passed = refl;
  is_over_now = refl;
  is_begun = refl;
  nodes_are = refl;
}
