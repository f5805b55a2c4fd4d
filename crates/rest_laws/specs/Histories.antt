-- A disk with what a history did and what is known after it stands for the tree of the history.
use Rattle.std.specs.Prelude.{◌≡◌, ℕ, Bool, true, Option, List, []}
use Rattle.frang_base.specs.declared.lock.LockId.{LockId}
use Rattle.tree_definitions.specs.Tree.{FileTree}
use Rattle.sector_bytes.specs.Blocks.{Block}
use Rattle.sector_world.specs.Histories.{Each, Item, is_logged, logical}
use Rattle.sector_world.specs.Plans.{IsByPlan, Legal}
use Rattle.sector_world.specs.Trees.{Distinct}
use Rattle.disk_definitions.specs.Standing.{StandsFor}
use Rattle.line_histories.specs.Following.{Follows}
use Rattle.line_histories.specs.LinePlans.{sector_plan}
use Rattle.line_histories.specs.Standing.{StandsNumbered}
use Rattle.line_histories.specs.Trees.{AreTimes, MayNumber}
use Rattle.byte_trees.specs.Deeds.{Deed, items, tree_after}
use Rattle.stop_laws.specs.Known.{HasWhatIsKnown, KnowsCells}
use Rattle.stop_laws.specs.Paired.{AreLines}

-- a disk after a history: each sector with a version is the logical one, and of the others it has what is known of bytes
pub record IsAfter (opening : ℕ → Block) (logged : ℕ → Bool) (first : ℕ → Option Block) (h : List Item) (disk : ℕ → Block) : Type 0 where
  pub versioned : (sector : ℕ) → is_logged logged h sector ≡ true → disk sector ≡ logical opening h sector
  pub known : HasWhatIsKnown logged first h disk

-- Along each legal history of lines with new numbers that is told as deeds: where cells are known after it, each such disk stands for the tree after the deeds. Sector 0 counts as one
-- with a version
abbrev pub HistoriesLeaveTheirTree : Type 0
HistoriesLeaveTheirTree =
    (segments : ℕ) (when : ℕ → ℕ) (opening : ℕ → Block) (first_tree : FileTree) (numbers : List ℕ) (home : ℕ → LockId) (logged : ℕ → Bool) (first : ℕ → Option Block)
    (deeds : List Deed) (disk : ℕ → Block) → AreTimes when → StandsNumbered segments opening (record { tree = first_tree; numbers = numbers }) →
    Legal (sector_plan segments when) opening (items deeds) → Distinct (MayNumber numbers) first_tree (items deeds) → Each IsByPlan (items deeds) → AreLines when deeds →
    Follows segments opening home logged first [] → logged 0 ≡ true → KnowsCells segments opening logged first first_tree deeds → IsAfter opening logged first (items deeds) disk →
    StandsFor disk (tree_after first_tree deeds)
