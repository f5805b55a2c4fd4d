-- A fresh disk: its parameters, the first segment of its bitmap and the root's inode, and zeros elsewhere.
use Rattle.std.specs.Prelude.{ℕ, false, List, [], ◌∷◌}
use Rattle.frang_base.specs.declared.limits.TheConstants.{INODE_BLOCKS_MAX, KIND_DIRECTORY, ROOT_INODE, TARGET_BYTES_MAX}
use Rattle.frang_base.specs.declared.bitmap.Bitmap.{Bitmap}
use Rattle.disk_definitions.specs.declared.param.Param.{Param}
use Rattle.disk_definitions.specs.declared.param.TheConstants.{FORMAT_NEWEST}
use Rattle.disk_definitions.specs.declared.inode.Inode.{Inode}
use Rattle.disk_definitions.specs.declared.region.Region.TheVariants as region
use Rattle.sector_bytes.specs.Bytes.{zeros}
use Rattle.sector_bytes.specs.Sectors.{Sectors, sectors_of}
use Rattle.disk_definitions.specs.Regions.{sector_of}
use Rattle.disk_definitions.specs.Params.{param_bytes}
use Rattle.disk_definitions.specs.Bitmaps.{bitmap_bytes}
use Rattle.disk_definitions.specs.Inodes.{inode_bytes}

-- the parameters of a fresh disk of so many segments: the newest format, run 1
abbrev pub fresh_param : ℕ → Param
fresh_param segments = record { format = FORMAT_NEWEST; segments = segments; run = 1 }

-- the first segment of a fresh disk: its first inode is in use, version 1
abbrev pub first_bitmap : Bitmap
first_bitmap = record { version = 1; inodes = 1; states = zeros 256; large = false }

-- the root's inode on a fresh disk: a directory without entries and blocks, birth 0, version 1
abbrev pub root_inode : Inode
root_inode =
    record { version = 1; kind = KIND_DIRECTORY; links = 1; blocks = 0; size = 0; birth = 0; small = zeros INODE_BLOCKS_MAX; large = 0; when = 0; target = zeros TARGET_BYTES_MAX }

-- the sectors of a fresh disk that aren't zero: the parameters, the first segment, the root's inode
abbrev pub fresh_sectors : ℕ → List (ℕ × List ℕ)
fresh_sectors segments =
    (0, param_bytes (fresh_param segments)) ∷ (sector_of (region.Segment 0), bitmap_bytes first_bitmap) ∷ (sector_of (region.Inode ROOT_INODE), inode_bytes root_inode) ∷ []

-- a fresh disk
abbrev pub fresh_disk : ℕ → Sectors
fresh_disk segments = sectors_of (fresh_sectors segments)
