-- Parameter sectors, byte for byte: that of a fresh disk of 16 segments, and neighbours that are none.
use Rattle.std.proofs.Common.{◌≡◌, ℕ, Some, None, List, [], ◌∷◌, ◌++◌, refl}
use Rattle.disk_definitions.specs.declared.param.Param.{Param}
use Rattle.sector_bytes.specs.Bytes.{zeros}
use Rattle.disk_definitions.specs.Params.{param_bytes, param_in}

-- a sector with these bytes behind the mark, and zeros
abbrev marked : List ℕ → List ℕ
marked bytes = 70 ∷ 82 ∷ 65 ∷ 78 ∷ 71 ∷ 80 ∷ 65 ∷ 82 ∷ (bytes ++ zeros 492)

-- a fresh disk of 16 segments
abbrev fresh_param : Param
fresh_param = record { format = 2; segments = 16; run = 1 }

-- its bytes
fresh_bytes : param_bytes fresh_param ≡ marked (2 ∷ 0 ∷ 0 ∷ 0 ∷ 16 ∷ 0 ∷ 0 ∷ 0 ∷ 1 ∷ 0 ∷ 0 ∷ 0 ∷ [])
fresh_bytes = refl

reads_fresh : param_in (marked (2 ∷ 0 ∷ 0 ∷ 0 ∷ 16 ∷ 0 ∷ 0 ∷ 0 ∷ 1 ∷ 0 ∷ 0 ∷ 0 ∷ [])) ≡ Some fresh_param
unfolding zeros
reads_fresh = refl

-- a disk of the older format, without times
reads_format_1 : param_in (marked (1 ∷ 0 ∷ 0 ∷ 0 ∷ 16 ∷ 0 ∷ 0 ∷ 0 ∷ 1 ∷ 0 ∷ 0 ∷ 0 ∷ [])) ≡ Some (record fresh_param { format = 1 })
unfolding zeros
reads_format_1 = refl

-- the greatest numbers
reads_greatest : param_in (marked (2 ∷ 0 ∷ 0 ∷ 0 ∷ 64 ∷ 0 ∷ 0 ∷ 0 ∷ 255 ∷ 255 ∷ 255 ∷ 255 ∷ [])) ≡ Some (record { format = 2; segments = 64; run = 4294967295 })
unfolding zeros
reads_greatest = refl

-- a format before the first or past the newest, no segment, a segment too many, run 0
format_0 : param_in (marked (0 ∷ 0 ∷ 0 ∷ 0 ∷ 16 ∷ 0 ∷ 0 ∷ 0 ∷ 1 ∷ 0 ∷ 0 ∷ 0 ∷ [])) ≡ None
unfolding zeros
format_0 = refl

format_3 : param_in (marked (3 ∷ 0 ∷ 0 ∷ 0 ∷ 16 ∷ 0 ∷ 0 ∷ 0 ∷ 1 ∷ 0 ∷ 0 ∷ 0 ∷ [])) ≡ None
unfolding zeros
format_3 = refl

no_segments : param_in (marked (2 ∷ 0 ∷ 0 ∷ 0 ∷ 0 ∷ 0 ∷ 0 ∷ 0 ∷ 1 ∷ 0 ∷ 0 ∷ 0 ∷ [])) ≡ None
unfolding zeros
no_segments = refl

too_many_segments : param_in (marked (2 ∷ 0 ∷ 0 ∷ 0 ∷ 65 ∷ 0 ∷ 0 ∷ 0 ∷ 1 ∷ 0 ∷ 0 ∷ 0 ∷ [])) ≡ None
unfolding zeros
too_many_segments = refl

run_0 : param_in (marked (2 ∷ 0 ∷ 0 ∷ 0 ∷ 16 ∷ 0 ∷ 0 ∷ 0 ∷ 0 ∷ 0 ∷ 0 ∷ 0 ∷ [])) ≡ None
unfolding zeros
run_0 = refl

-- another mark, a byte behind the fields, a byte too few, a byte too many
other_mark : param_in (70 ∷ 82 ∷ 65 ∷ 78 ∷ 71 ∷ 80 ∷ 65 ∷ 83 ∷ (2 ∷ 0 ∷ 0 ∷ 0 ∷ 16 ∷ 0 ∷ 0 ∷ 0 ∷ 1 ∷ 0 ∷ 0 ∷ 0 ∷ []) ++ zeros 492) ≡ None
unfolding zeros
other_mark = refl

a_byte_behind : param_in (70 ∷ 82 ∷ 65 ∷ 78 ∷ 71 ∷ 80 ∷ 65 ∷ 82 ∷ (2 ∷ 0 ∷ 0 ∷ 0 ∷ 16 ∷ 0 ∷ 0 ∷ 0 ∷ 1 ∷ 0 ∷ 0 ∷ 0 ∷ []) ++ zeros 491 ++ 1 ∷ []) ≡ None
unfolding zeros
a_byte_behind = refl

a_byte_too_few : param_in (70 ∷ 82 ∷ 65 ∷ 78 ∷ 71 ∷ 80 ∷ 65 ∷ 82 ∷ (2 ∷ 0 ∷ 0 ∷ 0 ∷ 16 ∷ 0 ∷ 0 ∷ 0 ∷ 1 ∷ 0 ∷ 0 ∷ 0 ∷ []) ++ zeros 491) ≡ None
unfolding zeros
a_byte_too_few = refl

zeros_are_none : param_in (zeros 512) ≡ None
unfolding zeros
zeros_are_none = refl
