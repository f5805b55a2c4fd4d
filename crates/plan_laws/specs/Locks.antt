-- The locks of a plan cover what it changes and what it says.
use Rattle.std.specs.Prelude.{◌≡◌, ℕ, ◌/◌, Bool, true, false, is_some, List}
use Rattle.std.specs.List.{AllByRecursion, Contains}
use Rattle.frang_base.specs.declared.limits.TheConstants.{SEGMENT_BLOCKS, SEGMENT_INODES}
use Rattle.frang_base.specs.declared.lock.LockId.{LockId}
use Rattle.frang_base.specs.declared.lock.LockId.TheVariants as lock
use Rattle.frang_base.specs.declared.lock.Mode.TheVariants.{Shared, Sole}
use Rattle.frang_base.specs.declared.op.Op.{Op}
use Rattle.frang_base.specs.declared.op.Op.TheVariants as op
use Rattle.frang_base.specs.declared.reply.Reply.{Reply}
use Rattle.frang_base.specs.declared.reply.Reply.TheVariants as reply
use Rattle.disk_definitions.specs.Store.{Store}
use Rattle.disk_definitions.specs.Edits.{Edit}
use Rattle.disk_definitions.specs.Edits.Edit.{SetInode, SetBit, SetUse, SetPlace, SetLarge, SetBytes, SetLargeBytes}
use Rattle.disk_definitions.specs.Held.{bitmap_of}
use Rattle.disk_definitions.specs.Ask.{run}
use Rattle.disk_definitions.specs.Walks.{walk}
use Rattle.disk_definitions.specs.Plans.{Hand, Lock, Plan, Finish, says_full}
use Rattle.disk_definitions.specs.Plans.Plan.{Lacks, Clears, Finishes}
use Rattle.disk_definitions.specs.PlanOf.{plan_of}

-- held alone
abbrev pub IsSole : List Lock → LockId → Type 0
IsSole locks lock_id = Contains locks (lock_id, Sole)

-- an inode is written under its node's lock, the bits and states of a segment under that segment's. What stands in blocks is under the lock of the
-- node that has them, which goes by a naming and isn't said here
abbrev pub IsCovered : List Lock → Edit → Type 0
IsCovered locks (SetInode inode stored_node dated) = IsSole locks (lock.Node inode)
IsCovered locks (SetBit inode used) = IsSole locks (lock.Segment (inode / SEGMENT_INODES))
IsCovered locks (SetUse block state) = IsSole locks (lock.Segment (block / SEGMENT_BLOCKS))
IsCovered locks (SetLarge segment used) = IsSole locks (lock.Segment segment)
IsCovered locks (SetPlace block slot entry) = Unit {0}
IsCovered locks (SetBytes block part bytes) = Unit {0}
IsCovered locks (SetLargeBytes segment part bytes) = Unit {0}

-- a finished plan: its edits are covered, and where an allocation found nothing each segment is held alone
pub record FinishIsCovered (hand : Hand) (finish : Finish) : Type 0 where
  pub edits : AllByRecursion (IsCovered finish.locks) finish.edits
  pub full : says_full finish.reply ≡ true → (segment : ℕ) → is_some (bitmap_of hand.held segment) ≡ true → IsSole finish.locks (lock.Segment segment)

abbrev pub PlanIsCovered : Hand → Plan → Type 0
PlanIsCovered hand Lacks = Unit {0}
PlanIsCovered hand (Clears block locks) = IsSole locks (lock.Segment (block / SEGMENT_BLOCKS))
PlanIsCovered hand (Finishes finish) = FinishIsCovered hand finish

-- over any disk, of a tree or not
abbrev pub IsCoveredPlan : Op → Type 0
IsCoveredPlan operation = (hand : Hand) (store : Store) (birth when : ℕ) → PlanIsCovered hand (run (plan_of hand birth when operation) store)

abbrev pub LocksCover : Type 0
LocksCover = (operation : Op) → IsCoveredPlan operation

-- these nodes are held with others
abbrev pub AreHeld : List ℕ → Plan → Type 0
AreHeld inodes Lacks = Unit {0}
AreHeld inodes (Clears block locks) = (inode : ℕ) → Contains inodes inode → Contains locks (lock.Node inode, Shared)
AreHeld inodes (Finishes finish) = (inode : ℕ) → Contains inodes inode → Contains finish.locks (lock.Node inode, Shared)

-- so the directories in which the walk of this path looks up its names
abbrev pub HoldsItsWalk : List (List ℕ) → Op → Type 0
HoldsItsWalk path operation = (hand : Hand) (store : Store) (birth when : ℕ) → AreHeld (run (walk path) store).dirs (run (plan_of hand birth when operation) store)

-- of looks and of file bytes
pub record WalksAreHeld : Type 0 where
  pub stat : (path : List (List ℕ)) → HoldsItsWalk path (op.Stat path)
  pub list : (path : List (List ℕ)) → HoldsItsWalk path (op.List path)
  pub readlink : (path : List (List ℕ)) → HoldsItsWalk path (op.Readlink path)
  pub time : (path : List (List ℕ)) → HoldsItsWalk path (op.Time path)
  pub read : (path : List (List ℕ)) (off len : ℕ) → HoldsItsWalk path (op.Read path off len)
  pub truncate : (path : List (List ℕ)) (len : ℕ) → HoldsItsWalk path (op.Truncate path len)
  pub write : (path : List (List ℕ)) (off : ℕ) (bytes : List ℕ) → HoldsItsWalk path (op.Write path off bytes)
  pub fill : (path : List (List ℕ)) (off len byte : ℕ) → HoldsItsWalk path (op.Fill path off len byte)
