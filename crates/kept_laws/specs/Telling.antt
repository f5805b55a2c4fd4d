-- The numbers of directories' blocks that entries tell: at least what the tree has, and at most what was ever a directory's.
use Rattle.std.specs.Prelude.{◌≡◌, ◌≤◌, ℕ, Bool, Option, List, []}
use Rattle.frang_base.specs.declared.lock.LockId.{LockId}
use Rattle.tree_definitions.specs.Tree.{FileTree}
use Rattle.tree_laws.specs.Histories.{ever_after}
use Rattle.sector_bytes.specs.Blocks.{Block}
use Rattle.sector_world.specs.Histories.{Each}
use Rattle.sector_world.specs.Plans.{IsByPlan, Legal}
use Rattle.sector_world.specs.Trees.{Distinct}
use Rattle.disk_definitions.specs.Meets.{directory_blocks_in}
use Rattle.line_histories.specs.LinePlans.{sector_plan}
use Rattle.line_histories.specs.Following.{store_after}
use Rattle.line_histories.specs.Trees.{MayNumber}
use Rattle.byte_trees.specs.Deeds.{Deed, items, steps}
use Rattle.stop_laws.specs.Legal.{AllMayTell}
use Rattle.stop_laws.specs.Paired.{AreLines}
use Rattle.stop_laws.specs.Sight.{Begins}

-- Along each legal history of lines with new numbers: so many blocks of the disk at most are or were a directory's as the opening counts and the entries grew
abbrev pub BlocksAreCounted : Type 0
BlocksAreCounted =
    (segments : ℕ) (when : ℕ → ℕ) (opening : ℕ → Block) (first_tree : FileTree) (numbers : List ℕ) (home : ℕ → LockId) (logged : ℕ → Bool) (first : ℕ → Option Block) →
    Begins segments when opening first_tree numbers home logged first → (ever : ℕ) → directory_blocks_in (store_after segments opening []) segments ≡ ever →
    (deeds : List Deed) → Legal (sector_plan segments when) opening (items deeds) → Distinct (MayNumber numbers) first_tree (items deeds) → Each IsByPlan (items deeds) →
    AreLines when deeds → directory_blocks_in (store_after segments opening (items deeds)) segments ≤ ever_after first_tree ever (steps deeds)

-- so each number that an entry tells may be told
abbrev pub NumbersMayBeTold : Type 0
NumbersMayBeTold =
    (segments : ℕ) (when : ℕ → ℕ) (opening : ℕ → Block) (first_tree : FileTree) (numbers : List ℕ) (home : ℕ → LockId) (logged : ℕ → Bool) (first : ℕ → Option Block) →
    Begins segments when opening first_tree numbers home logged first → (ever : ℕ) → directory_blocks_in (store_after segments opening []) segments ≡ ever →
    (deeds : List Deed) → Legal (sector_plan segments when) opening (items deeds) → Distinct (MayNumber numbers) first_tree (items deeds) → Each IsByPlan (items deeds) →
    AreLines when deeds → AllMayTell first_tree ever deeds
