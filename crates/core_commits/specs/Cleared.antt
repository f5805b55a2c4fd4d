-- The block that a line has cleared is fresh.
use Rattle.std.specs.Prelude.{◌≡◌, ◌<◌, ◌^◌, ℕ}
use Rattle.std.specs.List.{Contains}
use Rattle.frang_base.specs.declared.lock.LockId.TheVariants.{Segment}
use Rattle.frang_base.specs.declared.lock.Mode.{Mode}
use Rattle.frang_base.specs.declared.lock.Mode.TheVariants.{Sole}
use Rattle.sector_bytes.specs.SectorMaps.{Ascend}
use Rattle.set_definitions.specs.Sets.{LockSet}
use Rattle.tree_definitions.specs.Touched.{shape_of}
use Rattle.tree_definitions.specs.Tree.{FileTree}
use Rattle.tree_definitions.specs.WellFormed.{IsNew}
use Rattle.disk_definitions.specs.Allowed.{IsAllowed}
use Rattle.core_definitions.specs.Runs.{State as RunMoment}
use Rattle.sector_world.specs.World.{World}
use Rattle.core_world.specs.Ties.{AreTied}
use Rattle.core_world.specs.Sights.{AreStood}
use Rattle.core_commits.specs.Clears.{IsFreshBlock}
use Rattle.core_commits.specs.Finished.{number_in, time_of}
use Rattle.core_commits.specs.Stages.{HasCleared}
use Rattle.core_commits.specs.Standing.{AreSegmentsOf, AreWhole, StandsWhole}

-- the lock of a segment is in the set only sole
abbrev pub HasSegmentsSole : LockSet → Type 0
HasSegmentsSole set = (segment : ℕ) (mode : Mode) → Contains set (Segment segment, mode) → mode ≡ Sole

-- a block that a line has cleared is one that nobody has and that never was a directory's, and the server holds its segment alone; the line's number is new to the tree
abbrev pub ClearedBlocksAreFresh : Type 0
ClearedBlocksAreFresh =
    (s : RunMoment) (w : World) (tree : FileTree) (a block : ℕ) → StandsWhole s.core.setting.segments w tree → AreTied s.core s.disk w → AreStood s.core.servers w →
    AreWhole (s.core.servers a).cache → Ascend (s.core.servers a).cache → (c : HasCleared s.core.setting s.core.locks a (s.core.servers a) block) →
    AreSegmentsOf s.core.setting.segments c.line.under.set → HasSegmentsSole c.line.under.set → IsAllowed c.line.operation →
    IsNew (shape_of tree) (number_in s.core.setting c.line.under.line.number) → number_in s.core.setting c.line.under.line.number < 2 ^ 64 →
    time_of s.core.setting c.line.under.line.number < 2 ^ 64 → IsFreshBlock s.core.setting.segments w a block
