-- The first of a list is in it, and where there is none, nothing is.
use Rattle.std.proofs.Common.{◌≡◌, ℕ, true, List, [], ◌∷◌, Some, None, rules}
use Rattle.std.specs.List.{slice_get}
use Rattle.frang_base.specs.Functions.{member}

pub first_in : (x : ℕ) (xs : List ℕ) → slice_get xs 0 ≡ Some x → member x xs ≡ true
first_in x [] first = absurd (cc)
first_in x (y ∷ ys) first = let same : y ≡ x = cc in search rules

pub none_in : (x : ℕ) (xs : List ℕ) → slice_get xs 0 ≡ None → member x xs ≡ true → ⊥
none_in x [] first is = absurd (cc)
none_in x (y ∷ ys) first is = absurd (cc)
