-- The test of bytes is equality.
use Rattle.std.proofs.Common.{◌≡◌, ℕ, true, List, refl}
use Rattle.std.specs.Str.{bytes_eq}
use Rattle.std.proofs.lemmas.Slice.Eq.{bytes_eq-Decides}

pub same_bytes_is : (a b : List ℕ) → bytes_eq a b ≡ true → a ≡ b
same_bytes_is a b = (bytes_eq-Decides a b).0

pub same_bytes_refl : (a : List ℕ) → bytes_eq a a ≡ true
same_bytes_refl a = (bytes_eq-Decides a a).1 refl
