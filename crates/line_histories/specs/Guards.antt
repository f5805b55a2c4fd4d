-- What an outcome says of the disk on which it is planned: it keeps the guards under which an operation may be done.
use Rattle.std.specs.Prelude.{ℕ, ◌≡◌, ◌<◌, ◌+◌, ◌*◌, true, Some, List, IsTrue, IsSome}
use Rattle.std.specs.List.{Contains}
use Rattle.frang_base.specs.declared.change.Change.{Change}
use Rattle.frang_base.specs.declared.limits.TheConstants.{SEGMENT_BLOCKS, SMALL_BLOCK_SECTORS}
use Rattle.frang_base.specs.declared.lock.LockId.{LockId}
use Rattle.frang_base.specs.declared.op.Op.{Op}
use Rattle.frang_base.specs.Functions.{member}
use Rattle.sector_bytes.specs.Blocks.{zero_block}
use Rattle.sector_bytes.specs.Replays.{change_at}
use Rattle.sector_bytes.specs.Sectors.{Sectors}
use Rattle.sector_world.specs.Plans.{Outcome, IsFramed, looks}
use Rattle.disk_definitions.specs.declared.region.Region.TheVariants as region
use Rattle.disk_definitions.specs.Regions.{sector_of}
use Rattle.tree_definitions.specs.Tree.{FileTree}
use Rattle.disk_definitions.specs.Naming.{Naming}
use Rattle.disk_definitions.specs.Standing.{version_at}
use Rattle.disk_definitions.specs.Store.Use.{Fresh}
use Rattle.disk_definitions.specs.Ask.{Sector, DirectoryAt, number_of}
use Rattle.disk_definitions.specs.Meets.{IsOfTree}
use Rattle.disk_definitions.specs.Covers.{cover_of}
use Rattle.plan_laws.specs.Inside.{IsInside}
use Rattle.plan_laws.specs.Plans.{Planner}
use Rattle.disk_definitions.specs.Numbered.{sector_at}
use Rattle.line_histories.specs.LinePlans.{store_on, sector_plan_by, sector_plan}
use Rattle.line_histories.specs.Planners.{IsPart, IsSoundPlanner}

-- the sectors of the small blocks that aren't used and never were a directory's are zeros
abbrev pub IsClear : ℕ → Sectors → Type 0
IsClear segments disk =
    (block part : ℕ) → block < SEGMENT_BLOCKS * segments → part < SMALL_BLOCK_SECTORS → (store_on segments disk).use_of block ≡ Fresh →
    disk (sector_of (region.Small block part)) ≡ zero_block

-- the sectors with versions are those of this tree, but for the bytes of its files
pub record IsDiskOf (segments : ℕ) (disk : Sectors) (tree : FileTree) (naming : Naming) : Type 0 where
  pub of : IsOfTree (store_on segments disk) tree naming
  pub count : tree.segments ≡ segments
  pub clear : IsClear segments disk

-- the number of a sector whose cover is one of these locks
pub record IsUnder (naming : Naming) (locks : List LockId) (number : ℕ) : Type 0 where
  pub sector : Sector
  pub here : number ≡ number_of sector
  pub covered : Contains locks (cover_of naming sector)

-- the same of a sector that is looked at: an inode or a directory's block that the disk has, and one of the eight parts of a block
pub record IsSeen (segments : ℕ) (naming : Naming) (locks : List LockId) (number : ℕ) : Type 0 where
  pub sector : Sector
  pub here : number ≡ number_of sector
  pub inside : IsInside segments sector
  pub part : IsPart sector
  pub covered : Contains locks (cover_of naming sector)

-- a sector that moves is one of the disk, which was under a lock that is used alone and comes under another such
pub record IsMoved (segments : ℕ) (naming : Naming) (locks : List LockId) (number : ℕ) (new : LockId) : Type 0 where
  pub sector : Sector
  pub here : sector_at segments number ≡ Some sector
  pub old : Contains locks (cover_of naming sector)
  pub comes : Contains locks new

-- a sector that becomes one with versions is a part of a block that nobody used and that never was a directory's; it moves
pub record IsClaimed (segments : ℕ) (disk : Sectors) (o : Outcome) (number : ℕ) : Type 0 where
  pub block : ℕ
  pub part : ℕ
  pub here : sector_at segments number ≡ Some (DirectoryAt block part)
  pub free : (store_on segments disk).use_of block ≡ Fresh
  pub zeros : disk number ≡ zero_block
  pub moved : IsSome (o.moves number)

pub record KeepsGuards (segments : ℕ) (disk : Sectors) (naming : Naming) (o : Outcome) : Type 0 where
  -- each sector that is looked at or changed is under a lock that is used, and each that is changed under one that is used alone
  pub looked : (number : ℕ) → IsTrue (looks o number) → IsSeen segments naming o.uses number
  pub owned : (number : ℕ) (change : Change) → change_at o.changes number ≡ Some change → IsSeen segments naming o.alone number
  -- what is changed was looked at, and gets the next version
  pub based : (number : ℕ) (change : Change) → change_at o.changes number ≡ Some change → (member number o.looked ≡ true) × (change.version ≡ version_at disk number + 1)
  -- what moves, is claimed, is read, is written or freed
  pub moved : (number : ℕ) (new : LockId) → o.moves number ≡ Some new → IsMoved segments naming o.alone number new
  pub claimed : (number : ℕ) → o.claims number ≡ true → IsClaimed segments disk o number
  pub read : (number : ℕ) → member number o.reads ≡ true → IsSeen segments naming o.uses number
  pub made : (number : ℕ) → IsSome (o.makes number) → IsUnder naming o.alone number

-- a sound program's plan over the sectors goes by the sectors that it looks at
abbrev pub SoundPlansAreFramed : Type 0
SoundPlansAreFramed = (planner : Planner) → IsSoundPlanner planner → (segments : ℕ) (when : ℕ → ℕ) → IsFramed (sector_plan_by planner segments when)

abbrev pub LinePlansAreFramed : Type 0
LinePlansAreFramed = (segments : ℕ) (when : ℕ → ℕ) → IsFramed (sector_plan segments when)

-- and over the disk of a tree its outcomes keep the guards
abbrev pub SoundPlansKeepGuards : Type 0
SoundPlansKeepGuards =
    (planner : Planner) → IsSoundPlanner planner → (segments : ℕ) (when : ℕ → ℕ) (hint : List ℕ) (n : ℕ) (operation : Op) (disk : Sectors) (tree : FileTree) (naming : Naming) (o : Outcome) →
    IsDiskOf segments disk tree naming → sector_plan_by planner segments when hint n operation disk ≡ Some o → KeepsGuards segments disk naming o

abbrev pub LinePlansKeepGuards : Type 0
LinePlansKeepGuards =
    (segments : ℕ) (when : ℕ → ℕ) (hint : List ℕ) (n : ℕ) (operation : Op) (disk : Sectors) (tree : FileTree) (naming : Naming) (o : Outcome) →
    IsDiskOf segments disk tree naming → sector_plan segments when hint n operation disk ≡ Some o → KeepsGuards segments disk naming o
