-- How many small blocks are or were a directory's, before and after a finished line: at most so many more as the directories of the tree have more.
use Rattle.std.specs.Prelude.{◌≡◌, ◌≤◌, ℕ, ◌+◌, ◌-◌, ◌⊎◌, true}
use Rattle.frang_base.specs.declared.op.Op.{Op}
use Rattle.tree_definitions.specs.Tree.{FileTree, count_of, dir_blocks}
use Rattle.disk_definitions.specs.Store.{Store}
use Rattle.disk_definitions.specs.Store.Use.{Entries}
use Rattle.disk_definitions.specs.Naming.{Naming}
use Rattle.disk_definitions.specs.Edits.{edited_all}
use Rattle.disk_definitions.specs.Ask.{run}
use Rattle.disk_definitions.specs.Lines.{plan_of_line}
use Rattle.disk_definitions.specs.Meets.{IsHandOf, IsOfTree, directory_blocks_in, is_directory_use}
use Rattle.disk_definitions.specs.Plans.{Finish, Hand}
use Rattle.disk_definitions.specs.Plans.Plan.{Finishes}
use Rattle.plan_laws.specs.Plans.{OfEachFinish}

-- no small block becomes a directory's that never was one's
abbrev pub GainsNone : Store → Store → Type 0
GainsNone store after = (block : ℕ) → is_directory_use (after.use_of block) ≡ true → is_directory_use (store.use_of block) ≡ true

-- each small block is used as it was, or by a directory for entries
abbrev pub FreesNone : Store → Store → Type 0
FreesNone store after = (block : ℕ) → (after.use_of block ≡ store.use_of block) ⊎ (after.use_of block ≡ Entries)

-- a finished line does one of both: it gives no directory a block that never was one's, or it frees none
abbrev pub GainsOrFrees : Store → Naming → Finish → Type 0
GainsOrFrees store naming finish = GainsNone store (edited_all store finish.edits) ⊎ FreesNone store (edited_all store finish.edits)

abbrev pub LinesGainOrFree : Type 0
LinesGainOrFree = OfEachFinish plan_of_line GainsOrFrees

-- between two stores of trees with equally many segments, of which no block that isn't gained is freed, the number of blocks that are or were a directory's grows
-- at most by so many as the directories have more
abbrev pub GrowsWithTheTree : Type 0
GrowsWithTheTree =
    (store after : Store) (tree to : FileTree) (naming naming_after : Naming) → IsOfTree store tree naming → IsOfTree after to naming_after → to.segments ≡ tree.segments →
    GainsNone store after ⊎ FreesNone store after →
    directory_blocks_in after tree.segments ≤ directory_blocks_in store tree.segments + (count_of dir_blocks to - count_of dir_blocks tree)

-- so it is of a finished line
abbrev pub LinesGrowWithTheTree : Type 0
LinesGrowWithTheTree =
    (operation : Op) (hand : Hand) (store : Store) (tree to : FileTree) (naming naming_after : Naming) (birth when : ℕ) (finish : Finish) → IsOfTree store tree naming →
    IsHandOf hand store tree.segments → run (plan_of_line hand birth when operation) store ≡ Finishes finish → IsOfTree (edited_all store finish.edits) to naming_after →
    to.segments ≡ tree.segments →
    directory_blocks_in (edited_all store finish.edits) tree.segments ≤ directory_blocks_in store tree.segments + (count_of dir_blocks to - count_of dir_blocks tree)
