-- What the sectors of a disk say, without their versions: the inodes in use, the bits and states of the bitmaps, the entries of
-- directories by their places, the bytes of blocks. Numbers past the disk's segments say nothing.
use Rattle.std.specs.Prelude.{ℕ, ◌+◌, ◌-◌, ◌*◌, ◌/◌, ◌%◌, Bool, true, false, ◌==◌, ◌&&◌, if◌then◌else◌, nat_lt, Option, Some, None, List, [], ◌∷◌, take, slice_index}
use Rattle.std.specs.List.{slice_get}
use Rattle.frang_base.specs.declared.limits.TheConstants.{KIND_LINK, SECTOR_BYTES, SECTOR_ENTRIES, SEGMENT_BLOCKS, SEGMENT_INODES, SMALL_BLOCK_BYTES, SMALL_BYTES_MAX}
use Rattle.frang_base.specs.declared.bitmap.Bitmap.{Bitmap}
use Rattle.disk_definitions.specs.declared.region.Region.TheVariants as region
use Rattle.disk_definitions.specs.declared.inode.Inode.{Inode}
use Rattle.disk_definitions.specs.declared.directory.DirEntry.{DirEntry}
use Rattle.disk_definitions.specs.declared.directory.DirSector.{DirSector}
use Rattle.disk_definitions.specs.Regions.{sector_of}
use Rattle.disk_definitions.specs.Inodes.{inode_in, is_free_inode}
use Rattle.disk_definitions.specs.Directories.{directory_in, is_free_place, name_in}
use Rattle.disk_definitions.specs.Bitmaps.{bitmap_in, inode_bit, block_state}
use Rattle.sector_bytes.specs.Sectors.{Sectors}

-- an inode in use: its kind is 1 for a file, 2 for a directory, 3 for a link; the first `blocks` of its small blocks are in use; `when` is the time of a
-- file's last write
pub record StoredNode : Type 0 where
  pub kind : ℕ
  pub links : ℕ
  pub size : ℕ
  pub birth : ℕ
  pub blocks : ℕ
  pub small : ℕ → ℕ
  pub large : ℕ
  pub when : ℕ
  pub target : List ℕ

-- an entry of a directory: a name with the inode and the kind of its node
pub record StoredEntry : Type 0 where
  pub name : List ℕ
  pub inode : ℕ
  pub kind : ℕ

-- what a small block is used for: nothing yet; bytes of a file; nothing, and it was a directory's; a directory
pub data Use : Type 0 where
  Fresh : Use
  Bytes : Use
  Empty : Use
  Entries : Use

-- no node uses such a block
abbrev pub is_unused : Use → Bool
is_unused Fresh = true
is_unused Bytes = false
is_unused Empty = true
is_unused Entries = false

pub record Store : Type 0 where
  pub inode : ℕ → Option StoredNode
  pub bit : ℕ → Bool
  pub use_of : ℕ → Use
  pub place : ℕ → ℕ → Option StoredEntry  -- by block, and place below 56
  pub large_bit : ℕ → Bool
  pub byte : ℕ → ℕ → ℕ  -- by small block, and byte below 4,096
  pub large_byte : ℕ → ℕ → ℕ  -- by large block, and byte below 1,048,576

-- a byte of a file with these blocks: the first 65,536 stand in small blocks, the others in the large one
abbrev pub byte_at : Store → (ℕ → ℕ) → ℕ → ℕ → ℕ
byte_at s block large j = if nat_lt j SMALL_BYTES_MAX then s.byte (block (j / SMALL_BLOCK_BYTES)) (j % SMALL_BLOCK_BYTES) else s.large_byte large (j - SMALL_BYTES_MAX)

-- the node of an inode in use
abbrev pub stored : Inode → StoredNode
stored x = record { kind = x.kind; links = x.links; size = x.size; birth = x.birth; blocks = x.blocks; small = slice_index x.small; large = x.large; when = x.when; target = if x.kind == KIND_LINK then take x.size x.target else [] }

-- the node of an inode, where it isn't free
abbrev pub stored_node : Option Inode → Option StoredNode
stored_node None = None
stored_node (Some x) = if is_free_inode x then None else Some (stored x)

-- the entry of a place in use
abbrev pub entered : DirEntry → StoredEntry
entered e = record { name = name_in e; inode = e.inode; kind = e.kind }

-- the entry of a place, where it isn't free
abbrev pub stored_entry : Option DirEntry → Option StoredEntry
stored_entry None = None
stored_entry (Some e) = if is_free_place e then None else Some (entered e)

-- the entry of a place of a directory's sector
abbrev pub entry_in : Option DirSector → ℕ → Option StoredEntry
entry_in None place = None
entry_in (Some x) place = stored_entry (slice_get x.entries place)

-- inode j of a segment is in use
abbrev pub bit_in : Option Bitmap → ℕ → Bool
bit_in None j = false
bit_in (Some x) j = inode_bit x j

abbrev pub use_by : ℕ → Use
use_by state = if state == 0 then Fresh else (if state == 1 then Bytes else (if state == 2 then Empty else Entries))

-- what small block j of a segment is used for
abbrev pub use_in : Option Bitmap → ℕ → Use
use_in None j = Fresh
use_in (Some x) j = use_by (block_state x j)

-- the large block of a segment is in use
abbrev pub large_in : Option Bitmap → Bool
large_in None = false
large_in (Some x) = x.large

-- segment k of the bitmap
abbrev pub segment_at : Sectors → ℕ → Option Bitmap
segment_at sectors k = bitmap_in (sectors (sector_of (region.Segment k)))

-- part p of small block k as a sector of a directory
abbrev pub directory_at : Sectors → ℕ → ℕ → Option DirSector
directory_at sectors k p = directory_in (sectors (sector_of (region.Small k p)))

-- what the sectors of so many segments say
abbrev pub store_of : ℕ → Sectors → Store
store_of segments sectors = record {
  inode = λ i. if nat_lt i (SEGMENT_INODES * segments) then stored_node (inode_in (sectors (sector_of (region.Inode i)))) else None;
  bit = λ i. nat_lt i (SEGMENT_INODES * segments) && bit_in (segment_at sectors (i / SEGMENT_INODES)) (i % SEGMENT_INODES);
  use_of = λ k. if nat_lt k (SEGMENT_BLOCKS * segments) then use_in (segment_at sectors (k / SEGMENT_BLOCKS)) (k % SEGMENT_BLOCKS) else Fresh;
  place = λ k p. if nat_lt k (SEGMENT_BLOCKS * segments) then entry_in (directory_at sectors k (p / SECTOR_ENTRIES)) (p % SECTOR_ENTRIES) else None;
  large_bit = λ g. nat_lt g segments && large_in (segment_at sectors g);
  byte = λ k j. slice_index (sectors (sector_of (region.Small k (j / SECTOR_BYTES)))) (j % SECTOR_BYTES);
  large_byte = λ g j. slice_index (sectors (sector_of (region.Large g (j / SECTOR_BYTES)))) (j % SECTOR_BYTES);
}
