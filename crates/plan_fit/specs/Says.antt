-- What the sectors of a disk say, part by part as a store has it; each of these sectors is in its grammar.
use Rattle.std.specs.Prelude.{◌≡◌, ◌<◌, ℕ, ◌*◌, Bool, true, Option, is_some}
use Rattle.frang_base.specs.declared.limits.TheConstants.{BLOCK_ENTRIES, LARGE_BLOCK_SECTORS, SECTOR_BYTES, SEGMENT_BLOCKS, SEGMENT_INODES, SMALL_BLOCK_BYTES, SMALL_BLOCK_SECTORS}
use Rattle.disk_definitions.specs.declared.region.Region.TheVariants as region
use Rattle.disk_definitions.specs.Regions.{sector_of}
use Rattle.disk_definitions.specs.Inodes.{inode_in}
use Rattle.sector_bytes.specs.Sectors.{Sectors}
use Rattle.disk_definitions.specs.Store.{Store, StoredNode, StoredEntry, Use, store_of, segment_at, directory_at}
use Rattle.disk_definitions.specs.Store.Use.{Bytes}
use Rattle.disk_definitions.specs.Standing.{IsMetadata}

-- the segments have these bits and uses
pub record SegmentsSay (segments : ℕ) (sectors : Sectors) (bit : ℕ → Bool) (use_of : ℕ → Use) (large_bit : ℕ → Bool) : Type 0 where
  pub grammar : (segment : ℕ) → segment < segments → is_some (segment_at sectors segment) ≡ true
  pub bits : (inode : ℕ) → (store_of segments sectors).bit inode ≡ bit inode
  pub uses : (block : ℕ) → (store_of segments sectors).use_of block ≡ use_of block
  pub large_bits : (segment : ℕ) → (store_of segments sectors).large_bit segment ≡ large_bit segment

-- the inodes are these
pub record InodesSay (segments : ℕ) (sectors : Sectors) (inode : ℕ → Option StoredNode) : Type 0 where
  pub grammar : (number : ℕ) → number < SEGMENT_INODES * segments → is_some (inode_in (sectors (sector_of (region.Inode number)))) ≡ true
  pub inodes : (number : ℕ) → (store_of segments sectors).inode number ≡ inode number

-- the blocks that by some uses are or were a directory's have these places
pub record PlacesSay (segments : ℕ) (use_of : ℕ → Use) (sectors : Sectors) (place : ℕ → ℕ → Option StoredEntry) : Type 0 where
  pub grammar : (block part : ℕ) → block < SEGMENT_BLOCKS * segments → part < SMALL_BLOCK_SECTORS → IsMetadata (use_of block) →
      is_some (directory_at sectors block part) ≡ true
  pub places : (block slot : ℕ) → block < SEGMENT_BLOCKS * segments → slot < BLOCK_ENTRIES → IsMetadata (use_of block) →
      (store_of segments sectors).place block slot ≡ place block slot

-- the blocks that by some uses are for bytes have these bytes, small ones and large ones
abbrev pub BytesSay : ℕ → (ℕ → Use) → Sectors → (ℕ → ℕ → ℕ) → Type 0
BytesSay segments use_of sectors byte =
    (block index : ℕ) → block < SEGMENT_BLOCKS * segments → index < SMALL_BLOCK_BYTES → use_of block ≡ Bytes →
    (store_of segments sectors).byte block index ≡ byte block index

abbrev pub LargeBytesSay : ℕ → (ℕ → Bool) → Sectors → (ℕ → ℕ → ℕ) → Type 0
LargeBytesSay segments large_bit sectors byte =
    (segment index : ℕ) → segment < segments → index < LARGE_BLOCK_SECTORS * SECTOR_BYTES → large_bit segment ≡ true →
    (store_of segments sectors).large_byte segment index ≡ byte segment index

-- the sectors say what a store does, of places and bytes those that count by the uses of another store
pub record Says (segments : ℕ) (end : Store) (sectors : Sectors) (store : Store) : Type 0 where
  pub in_segments : SegmentsSay segments sectors store.bit store.use_of store.large_bit
  pub in_inodes : InodesSay segments sectors store.inode
  pub in_places : PlacesSay segments end.use_of sectors store.place
  pub in_bytes : BytesSay segments end.use_of sectors store.byte
  pub in_large : LargeBytesSay segments end.large_bit sectors store.large_byte
