-- The marks of dirty sectors, over every run.
use Rattle.std.specs.Prelude.{◌≡◌, ◌≤◌, ℕ, Some}
use Rattle.sector_bytes.specs.SectorMaps.{value_at}
use Rattle.sector_bytes.specs.Sectors.{Sectors}
use Rattle.cache_definitions.specs.declared.dirt.Dirt.{Dirt}
use Rattle.cache_definitions.specs.Caches.{CachedSector}
use Rattle.ring_definitions.specs.Rings.{last}
use Rattle.core_definitions.specs.Runs.{State, Run, first_state}
use Rattle.core_definitions.specs.Settings.{Setting}

-- over every run the mark of a dirty sector is no later than the last number of its server's log
abbrev pub MarksAreOfTheLog : Type 0
MarksAreOfTheLog =
    (setting : Setting) (disk : Sectors) (s : State) → Run (first_state setting disk) s → (a sector : ℕ) (cached : CachedSector) (dirt : Dirt) →
    value_at (s.core.servers a).cache sector ≡ Some cached → cached.dirt ≡ Some dirt → dirt.mark ≤ last (s.core.servers a).ring
