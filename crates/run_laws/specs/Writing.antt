-- Which sectors are of the disk, and which a line makes dirty.
use Rattle.std.specs.Prelude.{◌≡◌, ◌⊎◌, ℕ, Some, map}
use Rattle.std.specs.List.{Contains}
use Rattle.std.specs.Option.{IsSome}
use Rattle.disk_definitions.specs.Regions.{region_of}
use Rattle.core_definitions.specs.Cores.{stage}
use Rattle.core_definitions.specs.Effects.{Deed, Made, Says}
use Rattle.core_definitions.specs.LineEffects.{change_in}
use Rattle.core_definitions.specs.Lines.{Stage, Clearing, Finishing}
use Rattle.core_definitions.specs.Runs.{State, Run, Stays, Goes}
use Rattle.core_definitions.specs.Trees.{block_sectors}

-- the sector lies in a region of a disk of so many segments
abbrev pub IsOfDisk : ℕ → ℕ → Type 0
IsOfDisk segments sector = IsSome (region_of segments sector)

-- a put that was answered is of such a sector
abbrev pub PutsOnDisk : ℕ → Deed → Type 0
PutsOnDisk segments (Made put taken) = IsOfDisk segments put.sector.0
PutsOnDisk segments (Says line) = Unit {0}

-- a line makes this sector dirty next: it is one of the block that the line clears, its record changes the sector, or it is one of file bytes that are set
abbrev pub MakesDirty : Stage → ℕ → Type 0
MakesDirty (Clearing block) sector = Contains (block_sectors block) sector
MakesDirty (Finishing outcome) sector = IsSome (change_in outcome.redo sector) ⊎ Contains (map (λ set. set.sector) outcome.bytes) sector
MakesDirty at sector = ⊥

-- at this moment each line under way makes sectors of the disk dirty next, and no others
abbrev pub LinesStayOnDisk : State → Type 0
LinesStayOnDisk s = (a : ℕ) (at : Stage) → stage s.core a ≡ Some at → (sector : ℕ) → MakesDirty at sector → IsOfDisk s.core.setting.segments sector

-- so it is at each moment of a run before a step
abbrev pub StaysOnDisk : (s w : State) → Run s w → Type 0
StaysOnDisk s w Stays = Unit {0}
StaysOnDisk s w (Goes {v = v} step run) = LinesStayOnDisk s × StaysOnDisk v w run
