-- What a plan edits, against what it looks at.
use Rattle.std.specs.Prelude.{◌≡◌, ℕ, ◌/◌, true}
use Rattle.std.specs.List.{Contains}
use Rattle.frang_base.specs.declared.limits.TheConstants.{SECTOR_ENTRIES, SEGMENT_BLOCKS, SEGMENT_INODES}
use Rattle.frang_base.specs.declared.op.Op.{Op}
use Rattle.disk_definitions.specs.Store.{Store}
use Rattle.disk_definitions.specs.Edits.{Edit}
use Rattle.disk_definitions.specs.Edits.Edit.{SetInode, SetBit, SetUse, SetPlace, SetLarge, SetBytes, SetLargeBytes}
use Rattle.disk_definitions.specs.Ask.{Sector, InodeAt, DirectoryAt, SegmentAt, BytesAt, LargeAt, run, looks}
use Rattle.disk_definitions.specs.Plans.{Hand, Finish}
use Rattle.disk_definitions.specs.Plans.Plan.{Finishes}
use Rattle.disk_definitions.specs.PlanOf.{plan_of}
use Rattle.disk_definitions.specs.Written.{is_metadata}

-- the sector that an edit changes
abbrev pub edited_at : Edit → Sector
edited_at (SetInode inode stored_node dated) = InodeAt inode
edited_at (SetBit inode used) = SegmentAt (inode / SEGMENT_INODES)
edited_at (SetUse block state) = SegmentAt (block / SEGMENT_BLOCKS)
edited_at (SetPlace block slot entry) = DirectoryAt block (slot / SECTOR_ENTRIES)
edited_at (SetLarge segment used) = SegmentAt segment
edited_at (SetBytes block part bytes) = BytesAt block part
edited_at (SetLargeBytes segment part bytes) = LargeAt segment part

-- over any disk, of a tree or not: each edit of a sector with a version is of a sector that the plan looked at
abbrev pub EditsAreLookedAt : Type 0
EditsAreLookedAt =
    (operation : Op) (hand : Hand) (store : Store) (birth when : ℕ) (finish : Finish) → run (plan_of hand birth when operation) store ≡ Finishes finish →
    (edit : Edit) → Contains finish.edits edit → is_metadata edit ≡ true →
    Contains (looks (plan_of hand birth when operation) store) (edited_at edit)
