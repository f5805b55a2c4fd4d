-- The line of a server that hasn't passed the gate yet.
use Rattle.std.proofs.Common.{◌≡◌, ℕ, Bool, true, false, not, ◌&&◌, if◌then◌else◌, Option, Some, None, refl, sym, ap, ◌∙◌}
use Rattle.std.specs.Option.{option_map}
use Rattle.frang_base.specs.declared.script.Line.{Line}
use Rattle.core_definitions.specs.Cores.{Core, next_of}
use Rattle.core_definitions.specs.LineGuards.{has_passed, is_at_gate, is_line, is_server}
use Rattle.hall_runs.specs.Gates.{line_at_gate, number_to_enter}

abbrev number_of : Option Line → Option ℕ
number_of line = option_map (λ (l : Line). l.number) line

-- a number of a line that is there, and whether that passed
number_unless : (b : Bool) (passes : ℕ → Bool) (line : Option Line) (number : ℕ) → number_of line ≡ Some number → passes number ≡ b
    → number_of (if not (is_line (λ l. passes l.number) line) then line else None) ≡ (if b then None else Some number)
number_unless b passes None number is passed = absurd (cc)
number_unless b passes (Some line) number is passed = go b passed
  where
    same : line.number ≡ number
    same = cc is

    go : (b : Bool) → passes number ≡ b → number_of (if not (passes line.number) then Some line else None) ≡ (if b then None else Some number)
    go true passed = ap (λ t. number_of (if not t then Some line else None)) (ap passes same ∙ passed)
    go false passed = ap (λ t. number_of (if not t then Some line else None)) (ap passes same ∙ passed) ∙ ap Some same

none_either : (b : Bool) → number_of (if b then None else None) ≡ None
none_either true = refl
none_either false = refl

module _ (c : Core) (a : ℕ) where
  pub at_gate_is : is_at_gate c a ≡ true → option_map (λ line. line.number) (next_of c a) ≡ line_at_gate c a
  at_gate_is at = sym (ap (λ b. if b then option_map (λ line. line.number) (next_of c a) else None) at)

  pub not_at_gate : is_at_gate c a ≡ false → None ≡ line_at_gate c a
  not_at_gate not_at = sym (ap (λ b. if b then option_map (λ line. line.number) (next_of c a) else None) not_at)

  abbrev enters_by : Bool → Bool → Bool → Option ℕ
  enters_by over server passed = number_of (if not over && server && not passed then next_of c a else None)

  pub none_once_over : c.over ≡ true → None ≡ number_to_enter c a
  none_once_over over = sym (ap (λ o. enters_by o (is_server a) (has_passed c (next_of c a))) over)

  pub none_of_others : is_server a ≡ false → None ≡ number_to_enter c a
  none_of_others other = sym (ap (λ s. enters_by c.over s (has_passed c (next_of c a))) other ∙ go c.over)
    where
      go : (over : Bool) → enters_by over false (has_passed c (next_of c a)) ≡ None
      go true = refl
      go false = refl

  module _ (going : c.over ≡ false) (server : is_server a ≡ true) where
    enters : number_to_enter c a ≡ number_of (if not (has_passed c (next_of c a)) then next_of c a else None)
    enters = ap (λ o. enters_by o (is_server a) (has_passed c (next_of c a))) going ∙ ap (λ s. enters_by false s (has_passed c (next_of c a))) server

    pub none_without : None ≡ option_map (λ line. line.number) (next_of c a) → None ≡ number_to_enter c a
    none_without none = sym (enters ∙ go (next_of c a) refl none)
      where
        go : (line : Option Line) → next_of c a ≡ line → None ≡ number_of line → number_of (if not (has_passed c line) then line else None) ≡ None
        go None is none = refl
        go (Some line) is none = absurd (cc)

    pub enters_unless : (b : Bool) (number : ℕ) → option_map (λ line. line.number) (next_of c a) ≡ Some number → c.passed number ≡ b → (if b then None else Some number) ≡ number_to_enter c a
    enters_unless b number is passed = sym (enters ∙ number_unless b c.passed (next_of c a) number is passed)
