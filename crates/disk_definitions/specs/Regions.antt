-- The regions of the disk, in sectors of 512 bytes: parameters at 0, logs from 2^31, bitmaps from 2^32, inodes from 5 * 2^31,
-- small blocks from 6 * 2^31, large blocks from 134 * 2^31.
use Rattle.std.specs.Prelude.{ℕ, ◌+◌, ◌*◌, ◌-◌, ◌/◌, ◌%◌, Bool, true, ◌&&◌, ◌==◌, if◌then◌else◌, nat_le, nat_lt, Option, Some, None}
use Rattle.frang_base.specs.declared.limits.TheConstants.{LARGE_BLOCK_SECTORS, LOGS, LOG_SECTORS, SEGMENT_BLOCKS, SEGMENT_INODES, SMALL_BLOCK_SECTORS}
use Rattle.frang_base.specs.declared.lock.LockId.{LockId}
use Rattle.frang_base.specs.declared.lock.LockId.TheVariants as lock
use Rattle.disk_definitions.specs.declared.region.Region.{Region}
use Rattle.disk_definitions.specs.declared.region.Region.TheVariants as region

-- the first sector of each region
abbrev pub logs_from : ℕ
logs_from = 2147483648

abbrev pub bitmaps_from : ℕ
bitmaps_from = 4294967296

abbrev pub inodes_from : ℕ
inodes_from = 10737418240

abbrev pub small_blocks_from : ℕ
small_blocks_from = 12884901888

abbrev pub large_blocks_from : ℕ
large_blocks_from = 287762808832

-- the sectors from the first of one log to the first of the next, of which 256 are used
abbrev pub log_stride : ℕ
log_stride = 8388608

-- the sectors from the first of one large block to the first of the next, of which 2,048 are used
abbrev pub large_stride : ℕ
large_stride = 2147483648

-- the sector of a place in a region
abbrev pub sector_of : Region → ℕ
sector_of region.Param = 0
sector_of (region.Log server slot) = logs_from + server * log_stride + slot
sector_of (region.Segment k) = bitmaps_from + k
sector_of (region.Inode i) = inodes_from + i
sector_of (region.Small block part) = small_blocks_from + block * SMALL_BLOCK_SECTORS + part
sector_of (region.Large block part) = large_blocks_from + block * large_stride + part

-- the place in the logs, so many sectors after their first
abbrev pub log_at : ℕ → Option Region
log_at n = if nat_lt (n / log_stride) LOGS && nat_lt (n % log_stride) LOG_SECTORS then Some (region.Log (n / log_stride) (n % log_stride)) else None

-- the place in the large blocks of so many segments, so many sectors after their first
abbrev pub large_at : ℕ → ℕ → Option Region
large_at segments n =
    if nat_lt (n / large_stride) segments && nat_lt (n % large_stride) LARGE_BLOCK_SECTORS then Some (region.Large (n / large_stride) (n % large_stride)) else None

-- the sector stands among so many from a first one on
abbrev pub is_among : ℕ → ℕ → ℕ → Bool
is_among first count sector = nat_le first sector && nat_lt sector (first + count)

-- the place of a sector on a disk of so many segments, where it is in a region: a segment keeps 64 inodes, 1,024 small blocks and 1 large one
abbrev pub region_of : ℕ → ℕ → Option Region
region_of segments sector =
    if sector == 0 then Some region.Param
    else (if is_among logs_from (LOGS * log_stride) sector then log_at (sector - logs_from)
    else (if is_among bitmaps_from segments sector then Some (region.Segment (sector - bitmaps_from))
    else (if is_among inodes_from (SEGMENT_INODES * segments) sector then Some (region.Inode (sector - inodes_from))
    else (if is_among small_blocks_from (SMALL_BLOCK_SECTORS * SEGMENT_BLOCKS * segments) sector
    then Some (region.Small ((sector - small_blocks_from) / SMALL_BLOCK_SECTORS) ((sector - small_blocks_from) % SMALL_BLOCK_SECTORS))
    else (if nat_le large_blocks_from sector then large_at segments (sector - large_blocks_from) else None)))))

-- the place lies in its region on a disk of so many segments
abbrev pub is_in_range : ℕ → Region → Bool
is_in_range segments region.Param = true
is_in_range segments (region.Log server slot) = nat_lt server LOGS && nat_lt slot LOG_SECTORS
is_in_range segments (region.Segment k) = nat_lt k segments
is_in_range segments (region.Inode i) = nat_lt i (SEGMENT_INODES * segments)
is_in_range segments (region.Small block part) = nat_lt block (SEGMENT_BLOCKS * segments) && nat_lt part SMALL_BLOCK_SECTORS
is_in_range segments (region.Large block part) = nat_lt block segments && nat_lt part LARGE_BLOCK_SECTORS

-- the lock that covers a sector while nobody uses it: the segment that keeps its bit; parameters and logs have none
abbrev pub free_cover : Region → Option LockId
free_cover region.Param = None
free_cover (region.Log server slot) = None
free_cover (region.Segment k) = Some (lock.Segment k)
free_cover (region.Inode i) = Some (lock.Segment (i / SEGMENT_INODES))
free_cover (region.Small block part) = Some (lock.Segment (block / SEGMENT_BLOCKS))
free_cover (region.Large block part) = Some (lock.Segment block)
