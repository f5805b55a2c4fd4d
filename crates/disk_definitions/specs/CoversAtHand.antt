-- Which lock covers a sector, by what is at hand: the held segments and the cached inodes. `cover_at_hand` goes over all inodes of the disk, for a sector of which nothing else is known;
-- `cover_among` goes over the nodes at whose inodes a line looked, for a sector that the line needs or sets.
use Rattle.std.specs.Prelude.{ℕ, ◌+◌, ◌*◌, ◌/◌, Bool, false, ◌||◌, ◌==◌, if◌then◌else◌, Option, Some, None, List, find}
use Rattle.frang_base.specs.declared.limits.TheConstants.{SEGMENT_BLOCKS, SEGMENT_INODES}
use Rattle.frang_base.specs.declared.lock.LockId.{LockId}
use Rattle.frang_base.specs.declared.lock.LockId.TheVariants as lock
use Rattle.disk_definitions.specs.declared.region.Region.{Region}
use Rattle.disk_definitions.specs.declared.region.Region.TheVariants as region
use Rattle.disk_definitions.specs.Store.{StoredNode}
use Rattle.disk_definitions.specs.Held.{Segments, inode_in, large_in, state_in}
use Rattle.disk_definitions.specs.Least.{least}
use Rattle.disk_definitions.specs.Picks.{is_free, is_in_state}
use Rattle.disk_definitions.specs.Ask.{Sector, InodeAt, DirectoryAt, SegmentAt, BytesAt, LargeAt}
use Rattle.disk_definitions.specs.Written.{Cached, inode_at_hand}
use Rattle.disk_definitions.specs.Moves.{is_small_of}

-- ---- the node that has a block

-- an inode is at hand, in use, and has this small block
abbrev pub has_small : ℕ → Option (Option StoredNode) → Bool
has_small block None = false
has_small block (Some None) = false
has_small block (Some (Some node)) = is_small_of block node

-- or this large one
abbrev pub has_large : ℕ → Option (Option StoredNode) → Bool
has_large block None = false
has_large block (Some None) = false
has_large block (Some (Some node)) = node.large == block + 1

abbrev pub small_owner : Cached → ℕ → ℕ → Option ℕ
small_owner cached segments block = least (λ inode. has_small block (inode_at_hand cached inode)) (SEGMENT_INODES * segments)

abbrev pub large_owner : Cached → ℕ → ℕ → Option ℕ
large_owner cached segments block = least (λ inode. has_large block (inode_at_hand cached inode)) (SEGMENT_INODES * segments)

-- its lock; where none is at hand, that of a segment
abbrev pub node_or_segment : Option ℕ → ℕ → LockId
node_or_segment None segment = lock.Segment segment
node_or_segment (Some inode) segment = lock.Node inode

-- ---- covers: the segment of its bit for what a held segment has free

abbrev pub inode_cover : Segments → ℕ → LockId
inode_cover held inode = if is_free (inode_in held inode) then lock.Segment (inode / SEGMENT_INODES) else lock.Node inode

-- a held segment has the small block in one of the two states that no node uses
abbrev pub is_marked_unused : Segments → ℕ → Bool
is_marked_unused held block = is_in_state 0 (state_in held block) || is_in_state 2 (state_in held block)

abbrev pub small_cover : Cached → Segments → ℕ → ℕ → LockId
small_cover cached held segments block =
    if is_marked_unused held block then lock.Segment (block / SEGMENT_BLOCKS) else node_or_segment (small_owner cached segments block) (block / SEGMENT_BLOCKS)

abbrev pub large_cover : Cached → Segments → ℕ → ℕ → LockId
large_cover cached held segments block = if is_free (large_in held block) then lock.Segment block else node_or_segment (large_owner cached segments block) block

-- the cover of a sector on a disk of so many segments
abbrev pub cover_at_hand : Cached → Segments → ℕ → Sector → LockId
cover_at_hand cached held segments (InodeAt inode) = inode_cover held inode
cover_at_hand cached held segments (DirectoryAt block part) = small_cover cached held segments block
cover_at_hand cached held segments (SegmentAt segment) = lock.Segment segment
cover_at_hand cached held segments (BytesAt block part) = small_cover cached held segments block
cover_at_hand cached held segments (LargeAt block part) = large_cover cached held segments block

-- ---- the same of a sector that a line needs or sets: the node that has the block is one of those at whose inodes the line looked

-- the first of these nodes that has the small block
abbrev pub small_owner_among : Cached → List ℕ → ℕ → Option ℕ
small_owner_among cached nodes block = find (λ inode. has_small block (inode_at_hand cached inode)) nodes

abbrev pub large_owner_among : Cached → List ℕ → ℕ → Option ℕ
large_owner_among cached nodes block = find (λ inode. has_large block (inode_at_hand cached inode)) nodes

abbrev pub cover_among : Cached → Segments → List ℕ → Sector → LockId
cover_among cached held nodes (InodeAt inode) = inode_cover held inode
cover_among cached held nodes (DirectoryAt block part) = node_or_segment (small_owner_among cached nodes block) (block / SEGMENT_BLOCKS)
cover_among cached held nodes (SegmentAt segment) = lock.Segment segment
cover_among cached held nodes (BytesAt block part) = node_or_segment (small_owner_among cached nodes block) (block / SEGMENT_BLOCKS)
cover_among cached held nodes (LargeAt block part) = node_or_segment (large_owner_among cached nodes block) block

-- ---- by the number of a sector

-- the cover of the place that a sector's number has
abbrev pub place_cover : Cached → Segments → ℕ → Option Region → Option LockId
place_cover cached held segments None = None
place_cover cached held segments (Some region.Param) = None
place_cover cached held segments (Some (region.Log server slot)) = None
place_cover cached held segments (Some (region.Segment segment)) = Some (cover_at_hand cached held segments (SegmentAt segment))
place_cover cached held segments (Some (region.Inode inode)) = Some (cover_at_hand cached held segments (InodeAt inode))
place_cover cached held segments (Some (region.Small block part)) = Some (cover_at_hand cached held segments (BytesAt block part))
place_cover cached held segments (Some (region.Large block part)) = Some (cover_at_hand cached held segments (LargeAt block part))
