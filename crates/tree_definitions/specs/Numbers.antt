-- Lists of numbers.
use Rattle.std.specs.Prelude.{ℕ, zero, suc, List, [], ◌∷◌, ◌++◌}

-- the numbers below n, ascending
abbrev pub below : ℕ → List ℕ
below zero = []
below (suc n) = below n ++ n ∷ []
