-- Numbers and bytes in sectors. All numbers stand with their lowest byte first.
use Rattle.std.specs.Prelude.{ℕ, ◌<◌, Bool, List, slice_index, drop, replicate, ◌==◌}
use Rattle.std.specs.List.{list_all}
use Rattle.byteorder.specs.Endian.{little_number}

-- the number in n bytes from a place on
abbrev pub number_at : ℕ → ℕ → List ℕ → ℕ
number_at n place bytes = little_number n (drop place bytes)

-- n bytes of zero
unfoldable pub zeros : ℕ → List ℕ
zeros n = replicate n 0

-- all bytes, or numbers, are 0
abbrev pub are_zero : List ℕ → Bool
are_zero = list_all (λ b. b == 0)

-- each is a byte
abbrev pub AreBytes : List ℕ → Type 0
AreBytes bytes = (k : ℕ) → slice_index bytes k < 256
