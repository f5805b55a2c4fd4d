-- What is asked of a program that plans, so that its outcomes may be operations of a history: facts over any disk, and over the disk of a tree.
use Rattle.std.specs.Prelude.{◌≡◌, ◌<◌, ◌^◌, ◌⊎◌, ℕ, true, map}
use Rattle.std.specs.List.{Contains}
use Rattle.frang_base.specs.declared.limits.TheConstants.{SMALL_BLOCK_SECTORS}
use Rattle.frang_base.specs.declared.op.Op.{Op}
use Rattle.tree_definitions.specs.Tree.{FileTree}
use Rattle.disk_definitions.specs.Store.{Store}
use Rattle.disk_definitions.specs.Naming.{Naming}
use Rattle.disk_definitions.specs.Held.{state_in}
use Rattle.disk_definitions.specs.Picks.{is_in_state}
use Rattle.disk_definitions.specs.Edits.{Edit}
use Rattle.disk_definitions.specs.Edits.Edit.{SetBytes, SetLargeBytes}
use Rattle.disk_definitions.specs.Ask.{Sector, InodeAt, DirectoryAt, SegmentAt, BytesAt, LargeAt, run, looks}
use Rattle.disk_definitions.specs.Plans.{Hand, Plan, Finish}
use Rattle.disk_definitions.specs.Plans.Plan.{Lacks, Clears, Finishes}
use Rattle.disk_definitions.specs.Meets.{IsOfTree, IsHandOf}
use Rattle.disk_definitions.specs.Written.{is_metadata}
use Rattle.disk_definitions.specs.Allowed.{IsAllowed}
use Rattle.disk_definitions.specs.FitPlans.{IsFitStore, PlanIsFit}
use Rattle.plan_laws.specs.Locks.{IsSole}
use Rattle.plan_laws.specs.Inside.{AreInside}
use Rattle.plan_laws.specs.Looked.{edited_at}
use Rattle.disk_definitions.specs.Covers.{cover_of}
use Rattle.plan_laws.specs.Covers.{PlanHolds, IsHeldSegment}
use Rattle.plan_laws.specs.Plans.{Planner, OfEachFinish, MovesTidily, LeadsCovers, OwnsMoves, KeepsDirectories, OwnsBytes}
use Rattle.line_laws.specs.Stores.{with_bytes}
use Rattle.disk_definitions.specs.Lines.{plan_of_line}
use Rattle.line_histories.specs.LinePlans.{without_bytes}

-- ---- over any disk

-- an edit, a finished plan and a plan without the bytes of files
abbrev pub edit_shape : Edit → Edit
edit_shape (SetBytes block part bytes) = SetBytes block part (λ index. 0)
edit_shape (SetLargeBytes large part bytes) = SetLargeBytes large part (λ index. 0)
edit_shape edit = edit

abbrev pub finish_shape : Finish → Finish
finish_shape finish = record { reply = without_bytes finish.reply; edits = map edit_shape finish.edits; locks = finish.locks }

abbrev pub plan_shape : Plan → Plan
plan_shape Lacks = Lacks
plan_shape (Clears block locks) = Clears block locks
plan_shape (Finishes finish) = Finishes (finish_shape finish)

-- bytes of files decide nothing: whatever they are, it looks at the same sectors, and comes to the same but for bytes
abbrev pub BytesDontDecide : Planner → Type 0
BytesDontDecide planner =
    (operation : Op) (hand : Hand) (store : Store) (birth when : ℕ) (byte large_byte : ℕ → ℕ → ℕ) →
    (looks (planner hand birth when operation) (with_bytes store byte large_byte) ≡ looks (planner hand birth when operation) store)
    × (plan_shape (run (planner hand birth when operation) (with_bytes store byte large_byte)) ≡ plan_shape (run (planner hand birth when operation) store))

-- each sector with a version that a finished plan edits is one that it looked at
abbrev pub LooksAtEdits : Planner → Type 0
LooksAtEdits planner =
    (operation : Op) (hand : Hand) (store : Store) (birth when : ℕ) (finish : Finish) → run (planner hand birth when operation) store ≡ Finishes finish →
    (edit : Edit) → Contains finish.edits edit → is_metadata edit ≡ true → Contains (looks (planner hand birth when operation) store) (edited_at edit)

-- of a small block one of its eight parts
abbrev pub IsPart : Sector → Type 0
IsPart (InodeAt inode) = Unit {0}
IsPart (DirectoryAt block part) = part < SMALL_BLOCK_SECTORS
IsPart (SegmentAt segment) = Unit {0}
IsPart (BytesAt block part) = part < SMALL_BLOCK_SECTORS
IsPart (LargeAt large part) = Unit {0}

-- such are the sectors that it looks at
abbrev pub LooksAtParts : Planner → Type 0
LooksAtParts planner =
    (operation : Op) (hand : Hand) (store : Store) (birth when : ℕ) (sector : Sector) → Contains (looks (planner hand birth when operation) store) sector → IsPart sector

-- a hand for which each small block that never was a directory's counts as clear
abbrev pub cleared : Hand → Hand
cleared hand = record hand { zeroed = λ block. is_in_state 0 (state_in hand.held block) }

-- which blocks are known to be zero decides only whether one has to be cleared first: a finished plan is the same where all count as clear
abbrev pub ClearsAndGoesOn : Planner → Type 0
ClearsAndGoesOn planner =
    (operation : Op) (hand : Hand) (store : Store) (birth when : ℕ) (finish : Finish) → run (planner hand birth when operation) store ≡ Finishes finish →
    (run (planner (cleared hand) birth when operation) store ≡ Finishes finish) × (looks (planner (cleared hand) birth when operation) store ≡ looks (planner hand birth when operation) store)

-- ---- over the disk of a tree

-- it looks only at inodes and at blocks of directories that the disk has
abbrev pub LooksInside : Planner → Type 0
LooksInside planner =
    (operation : Op) (hand : Hand) (store : Store) (tree : FileTree) (naming : Naming) (birth when : ℕ) → IsOfTree store tree naming →
    IsHandOf hand store tree.segments → AreInside tree.segments (looks (planner hand birth when operation) store)

-- its edits may be made, and a block that becomes a directory's is clear
abbrev pub FitsTheDisk : Planner → Type 0
FitsTheDisk planner =
    (operation : Op) (hand : Hand) (store : Store) (tree : FileTree) (naming : Naming) (birth when : ℕ) → IsOfTree store tree naming →
    IsHandOf hand store tree.segments → IsFitStore tree.segments store → birth < 2 ^ 64 → when < 2 ^ 64 → IsAllowed operation →
    PlanIsFit hand tree.segments store (run (planner hand birth when operation) store)

-- each sector that it looks at is under one of its locks, or is that of a segment at hand
abbrev pub CoversLooks : Planner → Type 0
CoversLooks planner =
    (operation : Op) (hand : Hand) (store : Store) (tree : FileTree) (naming : Naming) (birth when : ℕ) → IsOfTree store tree naming →
    IsHandOf hand store tree.segments →
    (sector : Sector) → Contains (looks (planner hand birth when operation) store) sector →
    PlanHolds (run (planner hand birth when operation) store) (cover_of naming sector) ⊎ IsHeldSegment hand sector

-- each edit of a finished plan, of file bytes too, is of a sector whose lock is held alone
abbrev pub CoversEdits : Store → Naming → Finish → Type 0
CoversEdits store naming finish = (edit : Edit) → Contains finish.edits edit → IsSole finish.locks (cover_of naming (edited_at edit))

-- all that is asked
pub record IsSoundPlanner (planner : Planner) : Type 0 where
  pub blind : BytesDontDecide planner
  pub looked : LooksAtEdits planner
  pub parts : LooksAtParts planner
  pub clears : ClearsAndGoesOn planner
  pub inside : LooksInside planner
  pub fit : FitsTheDisk planner
  pub looks : CoversLooks planner
  pub edits : OfEachFinish planner CoversEdits
  pub tidy : OfEachFinish planner MovesTidily
  pub covers : OfEachFinish planner LeadsCovers
  pub owned : OfEachFinish planner OwnsMoves
  pub directories : OfEachFinish planner KeepsDirectories
  pub bytes : OfEachFinish planner OwnsBytes

-- the plans of lines keep it
abbrev pub LinesAreSound : Type 0
LinesAreSound = IsSoundPlanner plan_of_line
