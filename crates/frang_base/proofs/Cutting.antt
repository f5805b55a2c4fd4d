-- A text that is cut at its first separator.
use Rattle.std.proofs.Common.{◌≡◌, ℕ, ◌+◌, ◌-◌, ◌<◌, Bool, true, false, cond, ltb, List, [], ◌∷◌, length, take, drop, Option, Some, None, refl, sym, ◌∙◌, ap, arith}
use Rattle.std.specs.List.{slice_split, onto_first, position, position_from, position_or_len}
use Rattle.std.proofs.lemmas.Option.{cond_some}
use Rattle.std.proofs.lemmas.List.{take_rest}
use Rattle.std.proofs.lemmas.List.Splits.{slice_split_first, slice_split-cons_no}
use Rattle.std.proofs.lemmas.Iterator.Adapters.{position_from-zero}
use Rattle.std.proofs.lemmas.Bool.Decides.{nat_tests}

pub cut_where : (p : ℕ → Bool) (xs : List ℕ) (i : ℕ) → position p xs ≡ Some i → slice_split p xs ≡ take i xs ∷ slice_split p (take (length xs - (i + 1)) (drop (i + 1) xs))
cut_where p xs i e =
    let parts = cond_some (ltb (position_or_len p xs) (length xs)) (position_or_len p xs) i e in
    let within : position_or_len p xs < length xs = grind (arith, nat_tests, parts.0) in
    slice_split_first p xs 0 within
    ∙ ap (λ n. take n xs ∷ slice_split p (drop (n + 1) xs)) parts.1
    ∙ ap (λ ys. take i xs ∷ slice_split p ys) (sym (take_rest xs (i + 1)))

whole_step : (p : ℕ → Bool) (n x : ℕ) (xs : List ℕ) (b : Bool) → p x ≡ b → (position_from p (n + 1) xs ≡ None → slice_split p xs ≡ xs ∷ []) → cond b (Some n) (position_from p (n + 1) xs) ≡ None → slice_split p (x ∷ xs) ≡ (x ∷ xs) ∷ []
whole_step p n x xs true is rest e = cc
whole_step p n x xs false is rest e = slice_split-cons_no p x xs is ∙ ap (onto_first x) (rest e)

whole_from : (p : ℕ → Bool) (n : ℕ) (xs : List ℕ) → position_from p n xs ≡ None → slice_split p xs ≡ xs ∷ []
whole_from p n [] e = refl
whole_from p n (x ∷ xs) e = whole_step p n x xs (p x) refl (whole_from p (n + 1) xs) e

pub cut_nowhere : (p : ℕ → Bool) (xs : List ℕ) → position p xs ≡ None → slice_split p xs ≡ xs ∷ []
cut_nowhere p xs e = whole_from p 0 xs (sym (position_from-zero p xs) ∙ e)
