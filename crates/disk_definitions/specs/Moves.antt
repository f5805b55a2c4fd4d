-- Which lock covers each sector once edits are made, by the edits alone.
use Rattle.std.specs.Prelude.{ℕ, ◌+◌, ◌/◌, Bool, true, false, ◌==◌, if◌then◌else◌, Option, Some, None, is_some, List, [], ◌∷◌}
use Rattle.std.specs.Option.{option_map, option_or}
use Rattle.frang_base.specs.declared.limits.TheConstants.{SEGMENT_BLOCKS, SEGMENT_INODES}
use Rattle.frang_base.specs.declared.lock.LockId.{LockId}
use Rattle.frang_base.specs.declared.lock.LockId.TheVariants as lock
use Rattle.disk_definitions.specs.Store.{StoredNode, Use, is_unused}
use Rattle.disk_definitions.specs.Edits.{Edit}
use Rattle.disk_definitions.specs.Edits.Edit.{SetInode, SetBit, SetUse, SetLarge}
use Rattle.disk_definitions.specs.Resizing.{index_in}
use Rattle.disk_definitions.specs.Ask.{Sector, InodeAt, DirectoryAt, SegmentAt, BytesAt, LargeAt}

-- ---- what edits say of an inode and of a block

-- what the first edit says that says something
abbrev pub first_said : {X : Type 0} → (Edit → Option X) → List Edit → Option X
first_said says [] = None
first_said says (edit ∷ edits) = option_or (says edit) (first_said says edits)

-- the new bit of an inode
abbrev pub bit_said : ℕ → Edit → Option Bool
bit_said inode (SetBit other used) = if inode == other then Some used else None
bit_said inode _ = None

-- the new use of a small block
abbrev pub use_said : ℕ → Edit → Option Use
use_said block (SetUse other state) = if block == other then Some state else None
use_said block _ = None

-- the new bit of a large block
abbrev pub large_said : ℕ → Edit → Option Bool
large_said segment (SetLarge other used) = if segment == other then Some used else None
large_said segment _ = None

-- the small block is one of the node's
abbrev pub is_small_of : ℕ → StoredNode → Bool
is_small_of block node = is_some (index_in node.small node.blocks block)

-- the inode that is written with this small block
abbrev pub taker_said : ℕ → Edit → Option ℕ
taker_said block (SetInode inode (Some node) dated) = if is_small_of block node then Some inode else None
taker_said block _ = None

-- the inode that is written with this large block
abbrev pub large_taker_said : ℕ → Edit → Option ℕ
large_taker_said segment (SetInode inode (Some node) dated) = if node.large == segment + 1 then Some inode else None
large_taker_said segment _ = None

-- ---- where they move it

abbrev pub node_lock : ℕ → LockId
node_lock inode = lock.Node inode

-- an inode that is taken goes under its own lock, one that is freed under its segment's
abbrev pub inode_move : ℕ → Option Bool → Option LockId
inode_move inode None = None
inode_move inode (Some true) = Some (lock.Node inode)
inode_move inode (Some false) = Some (lock.Segment (inode / SEGMENT_INODES))

-- a small block that is taken goes under its taker's lock, one that is freed under its segment's
abbrev pub small_move : ℕ → Option ℕ → Option Use → Option LockId
small_move block taker None = None
small_move block taker (Some state) = if is_unused state then Some (lock.Segment (block / SEGMENT_BLOCKS)) else option_map node_lock taker

-- and so does a large block
abbrev pub large_move : ℕ → Option ℕ → Option Bool → Option LockId
large_move segment taker None = None
large_move segment taker (Some true) = option_map node_lock taker
large_move segment taker (Some false) = Some (lock.Segment segment)

abbrev pub moved_block : ℕ → List Edit → Option LockId
moved_block block edits = small_move block (first_said (taker_said block) edits) (first_said (use_said block) edits)

-- the lock under which the edits move a sector, where they move it
abbrev pub moved_by : List Edit → Sector → Option LockId
moved_by edits (InodeAt inode) = inode_move inode (first_said (bit_said inode) edits)
moved_by edits (SegmentAt segment) = None
moved_by edits (DirectoryAt block part) = moved_block block edits
moved_by edits (BytesAt block part) = moved_block block edits
moved_by edits (LargeAt segment part) = large_move segment (first_said (large_taker_said segment) edits) (first_said (large_said segment) edits)
