-- What is kept of the sectors of a disk, decoded.
use Rattle.std.specs.Prelude.{◌≡◌, ◌<◌, ℕ, Option, None, List, length, slice_index_or}
use Rattle.frang_base.specs.declared.bitmap.Bitmap.{Bitmap}
use Rattle.disk_definitions.specs.declared.inode.Inode.{Inode}
use Rattle.disk_definitions.specs.declared.region.Region.TheVariants as region
use Rattle.disk_definitions.specs.Regions.{sector_of}
use Rattle.disk_definitions.specs.Bitmaps.{bitmap_in}
use Rattle.disk_definitions.specs.Inodes.{inode_in}
use Rattle.sector_bytes.specs.Sectors.{sectors_of}

-- a segment of the bitmap, and an inode, decoded
unfoldable pub segment_of : List (ℕ × List ℕ) → ℕ → Option Bitmap
segment_of disk k = bitmap_in (sectors_of disk (sector_of (region.Segment k)))

unfoldable pub inode_of : List (ℕ × List ℕ) → ℕ → Option Inode
inode_of disk i = inode_in (sectors_of disk (sector_of (region.Inode i)))

-- what stands at each place is what the segment of that number says
abbrev pub AreSegments : List (ℕ × List ℕ) → List (Option Bitmap) → Type 0
AreSegments disk kept = (k : ℕ) → k < length kept → slice_index_or kept k None ≡ segment_of disk k

-- what stands at each place is what the inode of that number says
abbrev pub AreInodes : List (ℕ × List ℕ) → List (Option Inode) → Type 0
AreInodes disk kept = (i : ℕ) → i < length kept → slice_index_or kept i None ≡ inode_of disk i
