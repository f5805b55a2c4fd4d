-- Flags for numbers that are listed, and counts of names.
use Rattle.std.specs.Prelude.{◌≡◌, ◌<◌, ℕ, Bool, true, false, Option, Some, None, List, length, slice_index_or, slice_set}
use Rattle.standing_laws.specs.Below.{lists, are_distinct}

-- the flag of a number
abbrev pub flag_at : List Bool → ℕ → Bool
flag_at flags k = slice_index_or flags k false

-- the number, where there is one, has its flag
abbrev pub has_flag : List Bool → Option ℕ → Bool
has_flag flags None = false
has_flag flags (Some k) = flag_at flags k

-- with its flag
abbrev pub flagged : List Bool → Option ℕ → List Bool
flagged flags None = flags
flagged flags (Some k) = slice_set flags k true

-- the first n differ, and the flags are those of what they are
pub record AreFlags (f : ℕ → Option ℕ) (n : ℕ) (flags : List Bool) : Type 0 where
  pub distinct : are_distinct f n ≡ true
  pub each : (k : ℕ) → k < length flags → flag_at flags k ≡ lists f n k

-- where there is a number, it is below
abbrev pub IsBelow : ℕ → Option ℕ → Type 0
IsBelow n None = Unit {0}
IsBelow n (Some k) = k < n
