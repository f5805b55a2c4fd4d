-- A sector that a line needs may come in.
use Rattle.std.specs.Prelude.{◌≡◌, ℕ, Some}
use Rattle.frang_base.specs.declared.lock.LockId.{LockId}
use Rattle.sector_bytes.specs.SectorMaps.{Ascend}
use Rattle.tree_definitions.specs.Tree.{FileTree}
use Rattle.core_definitions.specs.Cores.{stage}
use Rattle.core_definitions.specs.LineEffects.{cover_needed}
use Rattle.core_definitions.specs.Lines.{Under}
use Rattle.core_definitions.specs.Runs.{State as RunMoment}
use Rattle.sector_world.specs.World.{World}
use Rattle.core_world.specs.Ties.{AreTied}
use Rattle.core_world.specs.Sights.{AreStood}
use Rattle.core_commits.specs.Fetches.{IsFetchable}
use Rattle.core_commits.specs.Standing.{AreSegmentsOf, AreWhole, StandsWhole}

-- a sector that a line needs isn't cached; its cover is the one with which it is needed, which the server holds; and one of bytes was written
abbrev pub NeededSectorsComeIn : Type 0
NeededSectorsComeIn =
    (s : RunMoment) (w : World) (tree : FileTree) (a sector : ℕ) (lock : LockId) → StandsWhole s.core.setting.segments w tree → AreTied s.core s.disk w →
    AreStood s.core.servers w → AreWhole (s.core.servers a).cache → Ascend (s.core.servers a).cache →
    ((under : Under) → (s.core.servers a).under ≡ Some under → AreSegmentsOf s.core.setting.segments under.set) → cover_needed (stage s.core a) sector ≡ Some lock → IsFetchable s w a sector lock
