-- The first places of numbers in a row of places.
use Rattle.std.specs.Prelude.{◌≡◌, ◌<◌, ℕ, Bool, true, not, ◌&&◌, if◌then◌else◌, nat_lt, Option, Some, None, is_some, List, length, slice_index_or, slice_set}
use Rattle.standing_laws.specs.Below.{holds}
use Rattle.disk_reading.specs.Marks.{flag_at}
use Rattle.report_definitions.specs.Sums.{first_below}
use Rattle.report_definitions.specs.Rules.{is_first_within}

-- there is no number, or it is below the limit and has no place yet
abbrev pub is_free : List (Option ℕ) → Option ℕ → Bool
is_free first None = true
is_free first (Some k) = nat_lt k (length first) && not (is_some (slice_index_or first k None))

-- the number gets a place, where it is below the limit and has none
abbrev pub with_user : List (Option ℕ) → Option ℕ → ℕ → List (Option ℕ)
with_user first None t = first
with_user first (Some k) t = if nat_lt k (length first) && not (is_some (slice_index_or first k None)) then slice_set first k (Some t) else first

-- the first of n places of each number below a limit, and whether each place is the first of its number and that is below
pub record AreUsers (f : ℕ → Option ℕ) (limit n : ℕ) (first : List (Option ℕ)) (fine : List Bool) : Type 0 where
  pub long : length first ≡ limit
  pub counted : length fine ≡ n
  pub users : (k : ℕ) → k < limit → slice_index_or first k None ≡ first_below n (λ t. holds (f t) k)
  pub firsts : (t : ℕ) → t < n → flag_at fine t ≡ is_first_within limit f t
