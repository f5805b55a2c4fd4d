-- What a history of lines asks of its first disk, of a fresh one.
use Rattle.std.specs.Prelude.{ℕ, ◌/◌, Bool, true, ◌==◌, if◌then◌else◌, Option, Some, None, []}
use Rattle.frang_base.specs.declared.limits.TheConstants.{ROOT_INODE, SEGMENT_BLOCKS, SEGMENT_INODES}
use Rattle.frang_base.specs.declared.lock.LockId.{LockId}
use Rattle.frang_base.specs.declared.lock.LockId.TheVariants as lock
use Rattle.tree_definitions.specs.Tree.{fresh}
use Rattle.sector_bytes.specs.Blocks.{Block}
use Rattle.disk_definitions.specs.Store.{Store}
use Rattle.disk_definitions.specs.Ask.{Sector, InodeAt, DirectoryAt, SegmentAt, BytesAt, LargeAt}
use Rattle.disk_definitions.specs.Numbered.{sector_at}
use Rattle.line_histories.specs.LinePlans.{store_on}
use Rattle.line_histories.specs.Following.{Follows, is_versioned}
use Rattle.line_histories.specs.Standing.{StandsForShape}
use Rattle.stop_laws.specs.Known.{KnowsCells}

-- the lock that covers a sector while only the root is in use: its own is that of the root's inode, each other that of a segment
abbrev pub fresh_cover : Sector → LockId
fresh_cover (InodeAt inode) = if inode == ROOT_INODE then lock.Node inode else lock.Segment (inode / SEGMENT_INODES)
fresh_cover (DirectoryAt block part) = lock.Segment (block / SEGMENT_BLOCKS)
fresh_cover (SegmentAt segment) = lock.Segment segment
fresh_cover (BytesAt block part) = lock.Segment (block / SEGMENT_BLOCKS)
fresh_cover (LargeAt large part) = lock.Segment large

-- of numbers that no such sector has it doesn't matter
abbrev pub cover_at : Option Sector → LockId
cover_at None = lock.Segment 0
cover_at (Some sector) = fresh_cover sector

abbrev pub fresh_home : ℕ → ℕ → LockId
fresh_home segments number = cover_at (sector_at segments number)

-- what has a version; so has what is no such sector
abbrev pub is_versioned_at : Store → Option Sector → Bool
is_versioned_at store None = true
is_versioned_at store (Some sector) = is_versioned store sector

abbrev pub fresh_logged : ℕ → (ℕ → Block) → ℕ → Bool
fresh_logged segments opening number = is_versioned_at (store_on segments opening) (sector_at segments number)

-- with these locks and kinds, and no bytes known, a disk that stands for the fresh tree meets what is asked of the first disk of a history
abbrev pub FreshDisksFollow : Type 0
FreshDisksFollow =
    (segments : ℕ) (opening : ℕ → Block) → StandsForShape segments opening (fresh segments) →
    Follows segments opening (fresh_home segments) (fresh_logged segments opening) (λ sector. None) []

-- and its cells are known, since there are none
abbrev pub FreshCellsAreKnown : Type 0
FreshCellsAreKnown = (segments : ℕ) (opening : ℕ → Block) (logged : ℕ → Bool) (first : ℕ → Option Block) → KnowsCells segments opening logged first (fresh segments) []
