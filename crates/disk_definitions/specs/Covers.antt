-- Which lock covers a sector, by a naming of the disk.
use Rattle.std.specs.Prelude.{ℕ, ◌/◌, Option, Some, None}
use Rattle.frang_base.specs.declared.limits.TheConstants.{SEGMENT_BLOCKS, SEGMENT_INODES}
use Rattle.frang_base.specs.declared.lock.LockId.{LockId}
use Rattle.frang_base.specs.declared.lock.LockId.TheVariants as lock
use Rattle.disk_definitions.specs.Naming.{Naming}
use Rattle.disk_definitions.specs.Ask.{Sector, InodeAt, DirectoryAt, SegmentAt, BytesAt, LargeAt}

-- the lock of an inode: its own where it is some birth's, else that of the segment that has its bit
abbrev pub inode_cover : ℕ → Option ℕ → LockId
inode_cover inode (Some birth) = lock.Node inode
inode_cover inode None = lock.Segment (inode / SEGMENT_INODES)

-- the lock of a small block: that of the node that has it, else that of the segment that has its state
abbrev pub small_cover : Naming → ℕ → Option (ℕ × ℕ) → LockId
small_cover naming block (Some owner) = lock.Node (naming.inode owner.0)
small_cover naming block None = lock.Segment (block / SEGMENT_BLOCKS)

-- the lock of a large block: that of the node that has it, else that of its segment
abbrev pub large_cover : Naming → ℕ → Option ℕ → LockId
large_cover naming segment (Some birth) = lock.Node (naming.inode birth)
large_cover naming segment None = lock.Segment segment

-- the lock that covers a sector, by a naming of the disk
abbrev pub cover_of : Naming → Sector → LockId
cover_of naming (InodeAt inode) = inode_cover inode (naming.birth inode)
cover_of naming (DirectoryAt block part) = small_cover naming block (naming.owner block)
cover_of naming (SegmentAt segment) = lock.Segment segment
cover_of naming (BytesAt block part) = small_cover naming block (naming.owner block)
cover_of naming (LargeAt segment part) = large_cover naming segment (naming.large_owner segment)
