-- Where a line looks, and what it looks at, edits, touches and changes, against its locks: the walks through links with the plan that follows.
use Rattle.std.specs.Prelude.{◌≡◌, ◌≢◌, ◌⊎◌, ◌++◌, ℕ, true, is_some}
use Rattle.std.specs.List.{Contains}
use Rattle.frang_base.specs.declared.lock.LockId.TheVariants as lock
use Rattle.frang_base.specs.declared.op.Op.{Op}
use Rattle.tree_definitions.specs.Tree.{FileTree, node_at}
use Rattle.tree_definitions.specs.Perform.{resolved, perform}
use Rattle.tree_definitions.specs.Touched.{visited}
use Rattle.tree_definitions.specs.WellFormed.{IsNew}
use Rattle.disk_definitions.specs.Store.{Store}
use Rattle.disk_definitions.specs.Naming.{Naming}
use Rattle.disk_definitions.specs.Edits.{Edit}
use Rattle.disk_definitions.specs.Ask.{Sector, run, looks}
use Rattle.disk_definitions.specs.Plans.{Hand, Finish}
use Rattle.disk_definitions.specs.Plans.Plan.{Finishes}
use Rattle.disk_definitions.specs.Meets.{IsOfTree, IsHandOf}
use Rattle.plan_laws.specs.Locks.{IsSole}
use Rattle.plan_laws.specs.FilesPlanned.{HasFiles}
use Rattle.plan_laws.specs.Inside.{AreInside}
use Rattle.plan_laws.specs.Looked.{edited_at}
use Rattle.disk_definitions.specs.Covers.{cover_of}
use Rattle.plan_laws.specs.Covers.{IsHeld, PlanHolds, IsHeldSegment, changes_bytes}
use Rattle.disk_definitions.specs.Lines.{plan_of_line}

-- over the disk of a tree a line looks only at inodes and at blocks of directories that the disk has
abbrev pub LinesLookInside : Type 0
LinesLookInside =
    (operation : Op) (hand : Hand) (store : Store) (tree : FileTree) (naming : Naming) (birth when : ℕ) → IsOfTree store tree naming →
    IsHandOf hand store tree.segments →
    AreInside tree.segments (looks (plan_of_line hand birth when operation) store)

-- each sector that it looks at, links that are followed among them, is under one of its locks, or is that of a segment at hand
abbrev pub LineLooksAreCovered : Type 0
LineLooksAreCovered =
    (operation : Op) (hand : Hand) (store : Store) (tree : FileTree) (naming : Naming) (birth when : ℕ) → IsOfTree store tree naming →
    IsHandOf hand store tree.segments →
    (sector : Sector) → Contains (looks (plan_of_line hand birth when operation) store) sector →
    PlanHolds (run (plan_of_line hand birth when operation) store) (cover_of naming sector) ⊎ IsHeldSegment hand sector

-- each edit of a finished line, of file bytes too, is of a sector whose lock is held alone
abbrev pub LineEditsAreCovered : Type 0
LineEditsAreCovered =
    (operation : Op) (hand : Hand) (store : Store) (tree : FileTree) (naming : Naming) (birth when : ℕ) (finish : Finish) → IsOfTree store tree naming →
    IsHandOf hand store tree.segments → run (plan_of_line hand birth when operation) store ≡ Finishes finish →
    (edit : Edit) → Contains finish.edits edit → IsSole finish.locks (cover_of naming (edited_at edit))

-- a finished line holds, in either mode, each directory and link that its walks go through, and each node that it visits by its reply
abbrev pub LineNodesAreHeld : Type 0
LineNodesAreHeld =
    (operation : Op) (hand : Hand) (store : Store) (tree : FileTree) (naming : Naming) (birth when : ℕ) (finish : Finish) → IsOfTree store tree naming →
    IsHandOf hand store tree.segments → run (plan_of_line hand birth when operation) store ≡ Finishes finish →
    (node : ℕ) → Contains ((resolved tree operation).trail ++ visited tree (resolved tree operation).step finish.reply) node →
    IsHeld finish.locks (lock.Node (naming.inode node))

-- a finished line holds alone each node that is another in the tree after it is performed; `ever_directories` is the number of small blocks that are or
-- were a directory's, which `write` and `fill` alone go by
abbrev pub LineChangesAreHeldAlone : Type 0
LineChangesAreHeldAlone =
    (operation : Op) (hand : Hand) (store : Store) (tree : FileTree) (naming : Naming) (birth when ever_directories : ℕ) (finish : Finish) →
    IsOfTree store tree naming → IsHandOf hand store tree.segments → IsNew tree birth →
    (changes_bytes operation ≡ true → HasFiles store tree ever_directories) → run (plan_of_line hand birth when operation) store ≡ Finishes finish →
    (node : ℕ) → is_some (node_at tree node) ≡ true → node_at (perform tree operation birth when ever_directories).tree node ≢ node_at tree node →
    IsSole finish.locks (lock.Node (naming.inode node))
