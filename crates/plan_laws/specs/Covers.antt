-- What a plan looks at and edits, against its locks.
use Rattle.std.specs.Prelude.{◌≡◌, ℕ, ◌/◌, ◌⊎◌, ◌≢◌, ◌++◌, Bool, true, false, is_some, Option, Some, None, List}
use Rattle.std.specs.List.{Contains}
use Rattle.frang_base.specs.declared.lock.LockId.{LockId}
use Rattle.frang_base.specs.declared.lock.LockId.TheVariants as lock
use Rattle.frang_base.specs.declared.lock.Mode.{Mode}
use Rattle.frang_base.specs.declared.op.Op.{Op}
use Rattle.frang_base.specs.declared.op.Op.TheVariants as op
use Rattle.tree_definitions.specs.Tree.{FileTree, node_at}
use Rattle.tree_definitions.specs.Touched.{looked_in, further}
use Rattle.tree_definitions.specs.Apply.{apply}
use Rattle.tree_definitions.specs.WellFormed.{IsNew}
use Rattle.disk_definitions.specs.Store.{Store}
use Rattle.disk_definitions.specs.Naming.{Naming}
use Rattle.disk_definitions.specs.Edits.{Edit}
use Rattle.disk_definitions.specs.Edits.Edit.{SetBytes}
use Rattle.disk_definitions.specs.Ask.{Sector, InodeAt, DirectoryAt, SegmentAt, BytesAt, LargeAt, run, looks}
use Rattle.disk_definitions.specs.Held.{bitmap_of}
use Rattle.disk_definitions.specs.Plans.{Hand, Lock, Finish, Plan}
use Rattle.disk_definitions.specs.Plans.Plan.{Lacks, Clears, Finishes}
use Rattle.disk_definitions.specs.PlanOf.{plan_of}
use Rattle.plan_laws.specs.Looked.{edited_at}
use Rattle.disk_definitions.specs.Meets.{IsOfTree, IsHandOf, is_directory_use}
use Rattle.disk_definitions.specs.Covers.{cover_of}
use Rattle.plan_laws.specs.Locks.{IsSole}
use Rattle.plan_laws.specs.FilesPlanned.{HasFiles}

-- over the disk of a tree each edit of a finished plan, of file bytes too, is of a sector whose lock is held alone
abbrev pub EditsAreCovered : Type 0
EditsAreCovered =
    (operation : Op) (hand : Hand) (store : Store) (tree : FileTree) (naming : Naming) (birth when : ℕ) (finish : Finish) → IsOfTree store tree naming →
    IsHandOf hand store tree.segments → run (plan_of hand birth when operation) store ≡ Finishes finish →
    (edit : Edit) → Contains finish.edits edit → IsSole finish.locks (cover_of naming (edited_at edit))

-- a lock is held, in either mode
abbrev pub IsHeld : List Lock → LockId → Type 0
IsHeld locks lock_id = (mode : Mode) × Contains locks (lock_id, mode)

-- it is one of the locks of a plan; a plan that lacks segments has none yet
abbrev pub PlanHolds : Plan → LockId → Type 0
PlanHolds Lacks lock_id = Unit {0}
PlanHolds (Clears block locks) lock_id = IsHeld locks lock_id
PlanHolds (Finishes finish) lock_id = IsHeld finish.locks lock_id

-- the sector is that of a segment at hand
abbrev pub IsHeldSegment : Hand → Sector → Type 0
IsHeldSegment hand (SegmentAt segment) = is_some (bitmap_of hand.held segment) ≡ true
IsHeldSegment hand _ = ⊥

-- over the disk of a tree each sector that a plan looks at is under one of its locks, or is that of a segment at hand
abbrev pub LooksAreCovered : Type 0
LooksAreCovered =
    (operation : Op) (hand : Hand) (store : Store) (tree : FileTree) (naming : Naming) (birth when : ℕ) → IsOfTree store tree naming →
    IsHandOf hand store tree.segments →
    (sector : Sector) → Contains (looks (plan_of hand birth when operation) store) sector →
    PlanHolds (run (plan_of hand birth when operation) store) (cover_of naming sector) ⊎ IsHeldSegment hand sector

-- over the disk of a tree the bytes of a finished plan go into small blocks that are no directory's and never were one's
abbrev pub BytesKeepOffDirectories : Type 0
BytesKeepOffDirectories =
    (operation : Op) (hand : Hand) (store : Store) (tree : FileTree) (naming : Naming) (birth when : ℕ) (finish : Finish) → IsOfTree store tree naming →
    IsHandOf hand store tree.segments → run (plan_of hand birth when operation) store ≡ Finishes finish →
    (block part : ℕ) (bytes : ℕ → ℕ) → Contains finish.edits (SetBytes block part bytes) → is_directory_use (store.use_of block) ≡ false

-- over the disk of a tree a finished plan holds, in either mode, each node in which the operation's walks look up a name, and the one further node
-- that the operation touches by its reply
abbrev pub WalkedNodesAreHeld : Type 0
WalkedNodesAreHeld =
    (operation : Op) (hand : Hand) (store : Store) (tree : FileTree) (naming : Naming) (birth when : ℕ) (finish : Finish) → IsOfTree store tree naming →
    IsHandOf hand store tree.segments → run (plan_of hand birth when operation) store ≡ Finishes finish →
    (node : ℕ) → Contains (looked_in tree operation ++ further tree operation finish.reply) node → IsHeld finish.locks (lock.Node (naming.inode node))

-- an operation that changes the bytes of a file
abbrev pub changes_bytes : Op → Bool
changes_bytes (op.Write path off bytes) = true
changes_bytes (op.Fill path off len byte) = true
changes_bytes (op.Truncate path len) = true
changes_bytes _ = false

-- over the disk of a tree a finished plan holds alone each node that is another in the tree after the operation; `ever_directories` is the number of small
-- blocks that are or were a directory's, which `write` and `fill` alone go by
abbrev pub ChangedNodesAreHeldAlone : Type 0
ChangedNodesAreHeldAlone =
    (operation : Op) (hand : Hand) (store : Store) (tree : FileTree) (naming : Naming) (birth when ever_directories : ℕ) (finish : Finish) →
    IsOfTree store tree naming → IsHandOf hand store tree.segments → IsNew tree birth →
    (changes_bytes operation ≡ true → HasFiles store tree ever_directories) → run (plan_of hand birth when operation) store ≡ Finishes finish →
    (node : ℕ) → is_some (node_at tree node) ≡ true → node_at (apply tree operation birth when ever_directories).tree node ≢ node_at tree node →
    IsSole finish.locks (lock.Node (naming.inode node))
