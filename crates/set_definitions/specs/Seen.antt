-- What a line has seen: the sectors at which its plans looked, with their versions, and how they stand against what is cached later.
use Rattle.std.specs.Prelude.{ℕ, ◌==◌, Bool, if◌then◌else◌, Option, Some, None, List, [], ◌∷◌, ◌++◌, fold}
use Rattle.std.specs.List.{list_any}
use Rattle.std.specs.Option.{option_map, unwrap_or}
use Rattle.sector_bytes.specs.Blocks.{Block, version_of}
use Rattle.sector_bytes.specs.SectorMaps.{value_at}
use Rattle.disk_definitions.specs.Written.{Cached}
use Rattle.set_definitions.specs.declared.moved.Moved.{Moved}

-- sectors with their versions, in the order in which they were first seen
abbrev pub SeenSectors : Type 0
SeenSectors = List (ℕ × ℕ)

-- the seen sectors are compared in their order, as far as they are cached under a cover in the set: the first with another version than the one seen has moved and ends it
pub data Comparison : Type 0 where
  HasMoved : Comparison
  HasStopped : Comparison
  HasGoneThrough : Comparison

abbrev pub compared_at : ℕ → Option Block → Comparison → Comparison
compared_at version None rest = HasStopped
compared_at version (Some block) rest = if version_of block == version then rest else HasMoved

abbrev pub compared : SeenSectors → Cached → Comparison
compared [] cached = HasGoneThrough
compared (seen ∷ others) cached = compared_at seen.1 (value_at cached seen.0) (compared others cached)

-- the sector that has moved, with the version seen and the one found
abbrev pub moved_at : ℕ × ℕ → Option Block → Option Moved → Option Moved
moved_at seen None rest = None
moved_at seen (Some block) rest =
    if version_of block == seen.1 then rest else Some (record { sector = record { 0 = seen.0 }; saw = seen.1; found = version_of block })

abbrev pub first_moved : SeenSectors → Cached → Option Moved
first_moved [] cached = None
first_moved (seen ∷ others) cached = moved_at seen (value_at cached seen.0) (first_moved others cached)

abbrev pub is_seen : SeenSectors → ℕ → Bool
is_seen seen sector = list_any (λ one. one.0 == sector) seen

-- a sector that isn't seen yet is seen, behind the others, with its cached version
abbrev pub with_seen : Cached → SeenSectors → ℕ → SeenSectors
with_seen cached seen sector = if is_seen seen sector then seen else seen ++ (sector, unwrap_or (option_map version_of (value_at cached sector)) 0) ∷ []

abbrev pub seen_more : Cached → SeenSectors → List ℕ → SeenSectors
seen_more cached seen sectors = fold (with_seen cached) seen sectors
