-- Tests of the numbers below a bound.
use Rattle.std.specs.Prelude.{ℕ, zero, suc, Bool, true, false, not, ◌&&◌, ◌||◌, ◌==◌, if◌then◌else◌, Option, Some, None}

-- each of them passes
abbrev pub all_below : ℕ → (ℕ → Bool) → Bool
all_below zero test = true
all_below (suc n) test = all_below n test && test n

-- one of them passes
abbrev pub any_below : ℕ → (ℕ → Bool) → Bool
any_below zero test = false
any_below (suc n) test = any_below n test || test n

-- the last of them that passes
abbrev pub find_below : ℕ → (ℕ → Bool) → Option ℕ
find_below zero test = None
find_below (suc n) test = if test n then Some n else find_below n test

-- it is there, and this number
abbrev pub holds : Option ℕ → ℕ → Bool
holds None k = false
holds (Some l) k = l == k

-- one of the first n is this number
abbrev pub lists : (ℕ → Option ℕ) → ℕ → ℕ → Bool
lists f n k = any_below n (λ t. holds (f t) k)

-- it isn't there, or none of the first n is this number
abbrev pub is_new : (ℕ → Option ℕ) → ℕ → Option ℕ → Bool
is_new f n None = true
is_new f n (Some k) = not (lists f n k)

-- those of the first n that are there differ
abbrev pub are_distinct : (ℕ → Option ℕ) → ℕ → Bool
are_distinct f n = all_below n (λ t. is_new f t (f t))
