-- One line more, and one draw more.
use Rattle.std.proofs.Common.{◌≡◌, ℕ, ◌+◌, List, [], ◌∷◌, ◌++◌, refl, sym, ◌∙◌, ap, append_assoc, add-one, arith}
use Rattle.std.proofs.lemmas.List.{append-nil}
use Rattle.std.proofs.lemmas.List.FromFn.{map-range_with_len_more}
use Rattle.frang_base.specs.declared.script.Line.{Line}
use Rattle.frang_soak.specs.Draws.{next_state, state_after}
use Rattle.frang_soak.specs.Scripts.{lines_at}

pub lines_at_none : (line : ℕ → Line) → lines_at line 0 ≡ []
unfolding lines_at
lines_at_none line = refl

pub lines_at_more : (line : ℕ → Line) (count : ℕ) → lines_at line (count + 1) ≡ lines_at line count ++ line count ∷ []
unfolding lines_at
lines_at_more line count = map-range_with_len_more line 0 count count (omega arith)

pub state_after_none : (state : ℕ) → state_after state 0 ≡ state
unfolding state_after
state_after_none state = refl

pub state_after_more : (state draws : ℕ) → state_after state (draws + 1) ≡ next_state (state_after state draws)
unfolding state_after
state_after_more state draws = rw add-one refl

-- a script before its lines, and with one line more
pub begun : (line : ℕ → Line) (before : List Line) → before ≡ before ++ lines_at line 0
begun line before = rw (lines_at_none line) (sym (append-nil before))

pub pushed : (line : ℕ → Line) (count : ℕ) (before so_far now : List Line) → so_far ≡ before ++ lines_at line count → now ≡ so_far ++ line count ∷ [] → now ≡ before ++ lines_at line (count + 1)
pushed line count before so_far now far more = more ∙ ap (λ xs. xs ++ line count ∷ []) far ∙ append_assoc before (lines_at line count) (line count ∷ []) ∙ ap (λ xs. before ++ xs) (sym (lines_at_more line count))
