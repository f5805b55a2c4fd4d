-- Numbers as words: decimal digits without a leading zero.
use Rattle.std.specs.Prelude.{ℕ, ◌+◌, ◌-◌, ◌*◌, Bool, false, not, ◌&&◌, ◌==◌, if◌then◌else◌, nat_le, List, [], ◌∷◌, Option, Some, None, fold}
use Rattle.std.specs.List.{list_all}

abbrev pub is_digit : ℕ → Bool
is_digit b = nat_le 48 b && nat_le b 57

-- one digit, or digits of which the first isn't `0`
abbrev pub is_numeral : List ℕ → Bool
is_numeral [] = false
is_numeral (d ∷ []) = is_digit d
is_numeral (d ∷ e ∷ ds) = is_digit d && not (d == 48) && list_all is_digit (e ∷ ds)

-- a digit after those of n
abbrev pub digit_after : ℕ → ℕ → ℕ
digit_after n d = n * 10 + (d - 48)

-- the number that digits write
abbrev pub numeral_value : List ℕ → ℕ
numeral_value ds = fold digit_after 0 ds

-- the number of a word, if it is one from low to high
abbrev pub number_in : ℕ → ℕ → List ℕ → Option ℕ
number_in low high word = if is_numeral word && nat_le low (numeral_value word) && nat_le (numeral_value word) high then Some (numeral_value word) else None

-- a count, which has 32 bits
abbrev pub count_at : List ℕ → Option ℕ
count_at word = number_in 0 4294967295 word
