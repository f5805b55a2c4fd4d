-- Which nodes stay, come and go by a finished plan, against the inodes that they have and the locks of the plan, whatever naming the disk has after it.
use Rattle.std.specs.Prelude.{◌≡◌, ◌<◌, ℕ, true, is_some, Some, None}
use Rattle.frang_base.specs.declared.lock.LockId.TheVariants as lock
use Rattle.frang_base.specs.declared.op.Op.{Op}
use Rattle.tree_definitions.specs.Apply.{Applied, apply}
use Rattle.tree_definitions.specs.Perform.{perform}
use Rattle.tree_definitions.specs.Touched.{other_room}
use Rattle.tree_definitions.specs.Tree.{FileTree, node_at}
use Rattle.tree_definitions.specs.WellFormed.{IsNew}
use Rattle.disk_definitions.specs.Naming.{Naming}
use Rattle.disk_definitions.specs.Standing.{IsReached}
use Rattle.disk_definitions.specs.Store.{Store}
use Rattle.disk_definitions.specs.Edits.{edited_all}
use Rattle.disk_definitions.specs.Ask.{InodeAt, run}
use Rattle.disk_definitions.specs.Meets.{IsOfTree, IsHandOf}
use Rattle.disk_definitions.specs.PlanOf.{plan_of}
use Rattle.disk_definitions.specs.Plans.{Hand, Finish}
use Rattle.disk_definitions.specs.Plans.Plan.{Finishes}
use Rattle.plan_laws.specs.FilesPlanned.{HasFiles}
use Rattle.plan_laws.specs.Keeping.{KeepsInodes}
use Rattle.plan_laws.specs.Locks.{IsSole}
use Rattle.disk_definitions.specs.Moves.{moved_by}
use Rattle.plan_laws.specs.Plans.{Planner}
use Rattle.disk_definitions.specs.Lines.{plan_of_line}

-- all namings of a disk of a tree whose nodes are reached have the same inodes
abbrev pub NamingsAgree : Type 0
NamingsAgree =
    (store : Store) (tree : FileTree) (one two : Naming) → IsOfTree store tree one → IsOfTree store tree two → IsReached (node_at tree) →
    (node : ℕ) → is_some (node_at tree node) ≡ true → two.inode node ≡ one.inode node

-- what a tree says of an operation, at a birth and a time, where so many small blocks are or were a directory's
abbrev pub Performer : Type 0
Performer = (tree : FileTree) → Op → (birth when ever_directories : ℕ) → Applied

-- what is said of a tree, the tree after it, a naming of the disk of each, and what was finished between
abbrev pub BetweenTrees : Type 1
BetweenTrees = FileTree → FileTree → Naming → Naming → Finish → Type 0

-- so it is of whatever the program finishes with over the disk of a tree whose nodes are reached and whose files fit into their blocks, with segments of it
-- at hand, by whatever naming of the disk after it
abbrev pub OfEachNaming : Planner → Performer → BetweenTrees → Type 0
OfEachNaming planner performer Law =
    (operation : Op) (hand : Hand) (store : Store) (tree : FileTree) (naming after : Naming) (birth when ever_directories : ℕ) (finish : Finish) → IsOfTree store tree naming →
    IsReached (node_at tree) → IsHandOf hand store tree.segments → IsNew tree birth → HasFiles store tree ever_directories →
    run (planner hand birth when operation) store ≡ Finishes finish → IsOfTree (edited_all store finish.edits) (performer tree operation birth when ever_directories).tree after →
    Law tree (performer tree operation birth when ever_directories).tree naming after finish

-- a node that stays keeps its inode
abbrev pub StaysInPlace : BetweenTrees
StaysInPlace tree to naming after finish = KeepsInodes tree to naming after

-- a node that comes takes an inode that was nobody's, which goes under its own lock
abbrev pub TakesFreeInodes : BetweenTrees
TakesFreeInodes tree to naming after finish =
    (node : ℕ) → node_at tree node ≡ None → is_some (node_at to node) ≡ true →
    (naming.birth (after.inode node) ≡ None) × (moved_by finish.edits (InodeAt (after.inode node)) ≡ Some (lock.Node (after.inode node)))

-- and this lock is held alone
abbrev pub HoldsNewNodes : BetweenTrees
HoldsNewNodes tree to naming after finish =
    (node : ℕ) → node_at tree node ≡ None → is_some (node_at to node) ≡ true → IsSole finish.locks (lock.Node (after.inode node))

-- where a node comes or goes, or has other blocks, the lock of a segment is held alone
abbrev pub HoldsRoom : BetweenTrees
HoldsRoom tree to naming after finish =
    (node : ℕ) → other_room (node_at tree node) (node_at to node) ≡ true → (segment : ℕ) × (segment < tree.segments) × IsSole finish.locks (lock.Segment segment)

-- ---- over paths without links

abbrev pub NodesKeepInodes : Type 0
NodesKeepInodes = OfEachNaming plan_of apply StaysInPlace

abbrev pub NewNodesTakeFreeInodes : Type 0
NewNodesTakeFreeInodes = OfEachNaming plan_of apply TakesFreeInodes

abbrev pub NewNodesAreHeldAlone : Type 0
NewNodesAreHeldAlone = OfEachNaming plan_of apply HoldsNewNodes

abbrev pub RoomTakesASegment : Type 0
RoomTakesASegment = OfEachNaming plan_of apply HoldsRoom

-- ---- over lines

abbrev pub LineNodesKeepInodes : Type 0
LineNodesKeepInodes = OfEachNaming plan_of_line perform StaysInPlace

abbrev pub NewNodesOfLinesTakeFreeInodes : Type 0
NewNodesOfLinesTakeFreeInodes = OfEachNaming plan_of_line perform TakesFreeInodes

abbrev pub NewNodesOfLinesAreHeldAlone : Type 0
NewNodesOfLinesAreHeldAlone = OfEachNaming plan_of_line perform HoldsNewNodes

abbrev pub RoomOfLinesTakesASegment : Type 0
RoomOfLinesTakesASegment = OfEachNaming plan_of_line perform HoldsRoom
