-- What is asked of seen sectors, and what is found of them.
use Rattle.std.specs.Prelude.{◌≡◌, ℕ, Bool, IsSome, is_some, Some}
use Rattle.std.specs.Option.{option_map}
use Rattle.sector_bytes.specs.Blocks.{version_of}
use Rattle.sector_bytes.specs.SectorMaps.{value_at}
use Rattle.disk_definitions.specs.Written.{Cached}

-- the sector is cached
abbrev pub is_cached : Cached → ℕ × ℕ → Bool
is_cached cached one = is_some (value_at cached one.0)

abbrev pub IsCached : Cached → ℕ × ℕ → Type 0
IsCached cached one = IsSome (value_at cached one.0)

-- it is cached in the version in which it was seen
abbrev pub IsUnmoved : Cached → ℕ × ℕ → Type 0
IsUnmoved cached one = option_map version_of (value_at cached one.0) ≡ Some one.1
