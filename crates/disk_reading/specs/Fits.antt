-- Tests of single sectors: in the grammar, with a version up to the most.
use Rattle.std.specs.Prelude.{ℕ, ◌*◌, Bool, true, ◌&&◌, nat_le, is_some}
use Rattle.frang_base.specs.declared.limits.TheConstants.{SEGMENT_BLOCKS, SEGMENT_INODES, SMALL_BLOCK_SECTORS}
use Rattle.disk_definitions.specs.declared.region.Region.TheVariants as region
use Rattle.disk_definitions.specs.Regions.{sector_of}
use Rattle.disk_definitions.specs.Inodes.{inode_in}
use Rattle.sector_bytes.specs.Sectors.{Sectors}
use Rattle.disk_definitions.specs.Store.{Store, Use, segment_at, directory_at}
use Rattle.disk_definitions.specs.Store.Use.{Fresh, Bytes, Empty, Entries as OfEntries}
use Rattle.disk_definitions.specs.Standing.{version_at}
use Rattle.standing_laws.specs.Below.{all_below}

-- the sector of a segment of the bitmap
unfoldable pub segment_fits : ℕ → Sectors → ℕ → Bool
segment_fits most sectors k = is_some (segment_at sectors k) && nat_le (version_at sectors (sector_of (region.Segment k))) most

-- the sector of an inode
unfoldable pub inode_fits : ℕ → Sectors → ℕ → Bool
inode_fits most sectors i = is_some (inode_in (sectors (sector_of (region.Inode i)))) && nat_le (version_at sectors (sector_of (region.Inode i))) most

-- a part of a block as a sector of a directory
unfoldable pub part_fits : ℕ → Sectors → ℕ → ℕ → Bool
part_fits most sectors k p = is_some (directory_at sectors k p) && nat_le (version_at sectors (sector_of (region.Small k p))) most

-- the parts of a block that is or was a directory's
abbrev pub block_fits : ℕ → Sectors → Use → ℕ → Bool
block_fits most sectors Fresh k = true
block_fits most sectors Bytes k = true
block_fits most sectors Empty k = all_below SMALL_BLOCK_SECTORS (part_fits most sectors k)
block_fits most sectors OfEntries k = all_below SMALL_BLOCK_SECTORS (part_fits most sectors k)

-- the sectors of so many segments, whose blocks have these uses
abbrev pub sectors_fit : ℕ → ℕ → Store → Sectors → Bool
sectors_fit most segments s sectors =
    all_below segments (segment_fits most sectors) && all_below (SEGMENT_INODES * segments) (inode_fits most sectors)
    && all_below (SEGMENT_BLOCKS * segments) (λ k. block_fits most sectors (s.use_of k) k)
