-- The places of a disk by their numbers, in ascending order of their sectors: the parameters, the slots of the logs, the segments of the bitmap, the inodes, and the sectors of small and of large blocks.
use Rattle.std.specs.Prelude.{ℕ, ◌+◌, ◌*◌, ◌-◌, ◌/◌, ◌%◌, ◌==◌, if◌then◌else◌, nat_lt}
use Rattle.frang_base.specs.declared.limits.TheConstants.{LARGE_BLOCK_SECTORS, LOGS, LOG_SECTORS, SEGMENT_BLOCKS, SEGMENT_INODES, SMALL_BLOCK_SECTORS}
use Rattle.disk_definitions.specs.declared.region.Region.{Region}
use Rattle.disk_definitions.specs.declared.region.Region.TheVariants as region

-- how many places the small blocks, and the large ones, of so many segments have
abbrev pub small_count : ℕ → ℕ
small_count segments = SMALL_BLOCK_SECTORS * SEGMENT_BLOCKS * segments

abbrev pub large_count : ℕ → ℕ
large_count segments = LARGE_BLOCK_SECTORS * segments

-- how many places a disk of so many segments has
abbrev pub place_count : ℕ → ℕ
place_count segments = 1 + LOGS * LOG_SECTORS + segments + SEGMENT_INODES * segments + small_count segments + large_count segments

-- the place with this number among those of the large blocks
abbrev pub large_from : ℕ → Region
large_from n = region.Large (n / LARGE_BLOCK_SECTORS) (n % LARGE_BLOCK_SECTORS)

-- the same among those of the small blocks and what lies behind them
abbrev pub small_from : ℕ → ℕ → Region
small_from segments n = if nat_lt n (small_count segments) then region.Small (n / SMALL_BLOCK_SECTORS) (n % SMALL_BLOCK_SECTORS) else large_from (n - small_count segments)

-- .. of the inodes
abbrev pub inode_from : ℕ → ℕ → Region
inode_from segments n = if nat_lt n (SEGMENT_INODES * segments) then region.Inode n else small_from segments (n - SEGMENT_INODES * segments)

-- .. of the bitmap
abbrev pub segment_from : ℕ → ℕ → Region
segment_from segments n = if nat_lt n segments then region.Segment n else inode_from segments (n - segments)

-- .. of the logs
abbrev pub log_from : ℕ → ℕ → Region
log_from segments n = if nat_lt n (LOGS * LOG_SECTORS) then region.Log (n / LOG_SECTORS) (n % LOG_SECTORS) else segment_from segments (n - LOGS * LOG_SECTORS)

-- the place with this number on a disk of so many segments
abbrev pub place_at : ℕ → ℕ → Region
place_at segments n = if n == 0 then region.Param else log_from segments (n - 1)
