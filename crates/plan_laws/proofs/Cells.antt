-- What stands at a place of a part of a list, and of a list with another one over it.
use Rattle.std.proofs.Common.{ℕ, zero, suc, ◌≡◌, ◌<◌, Some, List, [], ◌∷◌, take, refl, arith}
use Rattle.std.specs.List.{slice_get}

pub get_take : {X : Type 0} (n : ℕ) (xs : List X) (j : ℕ) (c : X) → slice_get (take n xs) j ≡ Some c → slice_get xs j ≡ Some c
get_take zero xs j c e = absurd (cc)
get_take (suc n) [] j c e = e
get_take (suc n) (x ∷ xs) zero c e = e
get_take (suc n) (x ∷ xs) (suc j) c e = get_take n xs j c e

pub get_in_take : {X : Type 0} (n : ℕ) (xs : List X) (j : ℕ) → j < n → slice_get (take n xs) j ≡ slice_get xs j
get_in_take zero xs j l = absurd (omega arith)
get_in_take (suc n) [] j l = refl
get_in_take (suc n) (x ∷ xs) zero l = refl
get_in_take (suc n) (x ∷ xs) (suc j) l = get_in_take n xs j (omega arith)
