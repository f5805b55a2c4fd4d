-- The length of blocks, over every run over the logs of a disk.
use Rattle.std.specs.Prelude.{◌≡◌, ◌≤◌, ℕ, Some, List, length}
use Rattle.frang_base.specs.declared.limits.TheConstants.{SECTOR_BYTES}
use Rattle.frang_base.specs.declared.script.Line.{Line}
use Rattle.disk_definitions.specs.Regions.{bitmaps_from}
use Rattle.sector_bytes.specs.SectorMaps.{value_at}
use Rattle.sector_bytes.specs.Sectors.{Sectors}
use Rattle.cache_definitions.specs.Caches.{CachedSector}
use Rattle.core_definitions.specs.Runs.{State, Run, first_state}
use Rattle.core_definitions.specs.Settings.{setting_of}

-- each sector behind the logs has 512 bytes
abbrev pub IsWholeDisk : Sectors → Type 0
IsWholeDisk disk = (sector : ℕ) → bitmaps_from ≤ sector → length (disk sector) ≡ SECTOR_BYTES

-- so it is over every run from such a disk
abbrev pub DisksStayWhole : Type 0
DisksStayWhole =
    (script : List Line) (segments run : ℕ) (disk : Sectors) (s : State) → IsWholeDisk disk → Run (first_state (setting_of script segments run) disk) s → IsWholeDisk s.disk

-- and each cached block has 512 bytes
abbrev pub CachedBlocksAreWhole : Type 0
CachedBlocksAreWhole =
    (script : List Line) (segments run : ℕ) (disk : Sectors) (s : State) → IsWholeDisk disk → Run (first_state (setting_of script segments run) disk) s → (a sector : ℕ) (cached : CachedSector) →
    value_at (s.core.servers a).cache sector ≡ Some cached → length cached.block ≡ SECTOR_BYTES
