-- The least number that passes a test, and how many do.
use Rattle.std.specs.Prelude.{ℕ, zero, suc, ◌+◌, Bool, true, false, if◌then◌else◌, Option, Some, None}

-- the least of the n numbers from i on that passes
unfoldable pub least_from : (ℕ → Bool) → ℕ → ℕ → Option ℕ
least_from test i zero = None
least_from test i (suc n) = elim (test i) [ true ↦ Some i | false ↦ least_from test (i + 1) n ]

-- the least number below n that passes
unfoldable pub least : (ℕ → Bool) → ℕ → Option ℕ
least test n = least_from test 0 n

abbrev pub one_if : Bool → ℕ
one_if b = if b then 1 else 0

-- how many of the numbers below n pass
unfoldable pub count : (ℕ → Bool) → ℕ → ℕ
count test zero = 0
count test (suc n) = one_if (test n) + count test n
