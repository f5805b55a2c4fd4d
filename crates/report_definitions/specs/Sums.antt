-- Sums and counts over the numbers below a bound.
use Rattle.std.specs.Prelude.{ℕ, zero, suc, ◌+◌, Bool, if◌then◌else◌, Option, Some, None, List, [], ◌++◌}

abbrev pub sum_below : ℕ → (ℕ → ℕ) → ℕ
sum_below zero f = 0
sum_below (suc n) f = sum_below n f + f n

-- how many of them pass
abbrev pub count_below : ℕ → (ℕ → Bool) → ℕ
count_below n test = sum_below n (λ i. if test i then 1 else 0)

-- the first, or else the second
abbrev pub or_else : Option ℕ → Option ℕ → Option ℕ
or_else None o = o
or_else (Some k) o = Some k

-- the first of them that passes
abbrev pub first_below : ℕ → (ℕ → Bool) → Option ℕ
first_below zero test = None
first_below (suc n) test = or_else (first_below n test) (if test n then Some n else None)

-- a fault: the number of a sector, and a kind
abbrev pub Fault : Type 0
Fault = ℕ × ℕ

-- what each of them has, one after another
abbrev pub gathered : ℕ → (ℕ → List Fault) → List Fault
gathered zero f = []
gathered (suc n) f = gathered n f ++ f n
