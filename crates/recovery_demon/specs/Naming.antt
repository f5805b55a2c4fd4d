-- The sectors that records name, as they are gathered.
use Rattle.std.specs.Prelude.{◌≡◌, ℕ, ◌&&◌, ◌||◌, Bool, is_some, List, [], ◌∷◌}
use Rattle.frang_base.specs.Functions.{member}
use Rattle.sector_bytes.specs.SectorMaps.{value_at}
use Rattle.disk_definitions.specs.Regions.{region_of}
use Rattle.disk_definitions.specs.Replay.{is_replayed}

-- sectors, kept as the keys of a map
abbrev pub SectorSet : Type 0
SectorSet = List (ℕ × Unit {0})

-- a replay may change it
abbrev pub is_changeable : ℕ → ℕ → Bool
is_changeable segments sector = is_replayed (region_of segments sector)

-- these are the same and those of the sectors that a replay may change
abbrev pub AreAdded : ℕ → List ℕ → SectorSet → SectorSet → Type 0
AreAdded segments sectors before after =
    (sector : ℕ) → is_some (value_at after sector) ≡ (is_some (value_at before sector) || (member sector sectors && is_changeable segments sector))

-- the same of one sector
abbrev pub Adds : ℕ → ℕ → SectorSet → SectorSet → Type 0
Adds segments added before after = AreAdded segments (added ∷ []) before after
