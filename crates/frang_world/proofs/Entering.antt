-- The next line of a server, where it may enter, is the one that is told, and passes the gate.
use Rattle.std.proofs.Common.{ℕ, ◌≡◌, Bool, true, false, not, ◌&&◌, if◌then◌else◌, Option, Some, None, IsSomeAnd, sym, ap, ◌∙◌}
use Rattle.std.specs.Option.{option_map}
use Rattle.std.proofs.lemmas.Bool.{and_from}
use Rattle.frang_base.specs.declared.script.Line.{Line}
use Rattle.core_definitions.specs.Cores.{Core, next_of}
use Rattle.core_definitions.specs.LineGuards.{has_passed, is_server}
use Rattle.core_definitions.specs.Runs.{CanEnter}
use Rattle.hall_runs.specs.Gates.{number_to_enter}

module _ (c : Core) (a : ℕ) where
  waits : (line : Line) → CanEnter c a line → not (has_passed c (next_of c a)) ≡ true
  waits line can = ap (λ (next : Option Line). not (has_passed c next)) can.next ∙ can.waits

  pub enters_number : (line : Line) → CanEnter c a line → number_to_enter c a ≡ Some line.number
  enters_number line can =
      ap (λ (b : Bool). option_map (λ (l : Line). l.number) (if b then next_of c a else None))
      (and_from (not c.over && is_server a) (not (has_passed c (next_of c a))) (and_from (not c.over) (is_server a) can.going can.server) (waits line can))
      ∙ ap (option_map (λ (l : Line). l.number)) can.next

  -- whichever line may enter has the number that is told
  pub enters_this : (line : Line) (number : ℕ) → CanEnter c a line → number_to_enter c a ≡ Some number → number ≡ line.number
  enters_this line number can is = let same : Some number ≡ Some line.number = sym is ∙ enters_number line can in cc

  pub enters_none : (line : Line) → CanEnter c a line → number_to_enter c a ≡ None → ⊥
  enters_none line can none = let same : Some line.number ≡ None = sym (enters_number line can) ∙ none in absurd (cc)

  -- and it is that of the next line
  pub number_is_next : (number : ℕ) → number_to_enter c a ≡ Some number → IsSomeAnd (next_of c a) (λ line. line.number ≡ number)
  number_is_next number is = go (not c.over && is_server a && not (has_passed c (next_of c a))) (next_of c a) is
    where
      go : (b : Bool) (next : Option Line) → option_map (λ (l : Line). l.number) (if b then next else None) ≡ Some number → IsSomeAnd next (λ line. line.number ≡ number)
      go false next is = absurd (cc)
      go true None is = absurd (cc)
      go true (Some line) is = cc
