-- Where a key stands in entries that ascend by their keys.
use Rattle.std.specs.Prelude.{◌≡◌, ℕ, zero, suc, true, Result, Ok, Err, List, [], ◌∷◌}
use Rattle.std.specs.BTreeMap.{is_at}
use Rattle.std.specs.Cmp.{IsTotalOrder}
use Rattle.std.specs.Ordering.{match_ordering}
use Rattle.std.specs.declared.cmp.Ordering.{Ordering}

-- a total order in which only the same key is equal
pub record IsKeyOrder {K : Type 0} (cmp : K → K → Ordering) : Type 0 where
  pub total : IsTotalOrder cmp
  pub exact : (a b : K) → is_at (cmp a) b ≡ true → b ≡ a

-- one place further on
abbrev pub further : Result ℕ ℕ → Result ℕ ℕ
further (Ok at) = Ok (suc at)
further (Err at) = Err (suc at)

-- the key's place, or the place where it would go
abbrev pub place_of : {K V : Type 0} → (K → K → Ordering) → K → List (K × V) → Result ℕ ℕ
place_of cmp key [] = Err zero
place_of cmp key (entry ∷ entries) = match_ordering (cmp key entry.0) (Err zero) (Ok zero) (further (place_of cmp key entries))

-- the entries with this value in the place of that of one
abbrev pub overwritten : {K V : Type 0} → List (K × V) → ℕ → V → List (K × V)
overwritten [] i value = []
overwritten (entry ∷ entries) zero value = (entry.0, value) ∷ entries
overwritten (entry ∷ entries) (suc i) value = entry ∷ overwritten entries i value

-- the place of a result
abbrev pub at_of : Result ℕ ℕ → ℕ
at_of (Ok at) = at
at_of (Err at) = at
