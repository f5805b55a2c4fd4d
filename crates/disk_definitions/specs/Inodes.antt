-- Inode sectors.
use Rattle.std.specs.Prelude.{ℕ, zero, suc, ◌*◌, Bool, ◌&&◌, ◌||◌, ◌==◌, ◌≡◌, if◌then◌else◌, nat_le, nat_lt, Option, Some, None, List, [], ◌∷◌, ◌++◌, take, drop, slice_index, IsTrue}
use Rattle.std.specs.List.{list_all, flat_map}
use Rattle.frang_base.specs.Name.{is_target_byte}
use Rattle.byteorder.specs.Endian.{little_bytes}
use Rattle.tree_definitions.specs.Tree.{small_blocks_of}
use Rattle.disk_definitions.specs.declared.inode.Inode.{Inode}
use Rattle.sector_bytes.specs.Bytes.{number_at, zeros, are_zero}
use Rattle.std.specs.Str.{bytes_eq}
use Rattle.frang_base.specs.declared.limits.TheConstants.{BLOCK_ENTRIES, FILE_BYTES_MAX, INODE_BLOCKS_MAX, KIND_DIRECTORY, KIND_FILE, KIND_FREE, KIND_LINK, LINKS_MAX, SMALL_BYTES_MAX, TARGET_BYTES_MAX}

-- its bytes, field by field
abbrev pub inode_bytes : Inode → List ℕ
inode_bytes x =
    little_bytes 8 x.version ++ x.kind ∷ 0 ∷ little_bytes 2 x.links ++ little_bytes 2 x.blocks ++ 0 ∷ 0 ∷ little_bytes 8 x.size
    ++ little_bytes 8 x.birth ++ flat_map (little_bytes 4) x.small ++ little_bytes 4 x.large ++ little_bytes 8 x.when ++ zeros 20
    ++ x.target

-- the small blocks past those in use are 0
abbrev pub ends_blocks : Inode → Bool
ends_blocks x = are_zero (drop x.blocks x.small)

-- all but the version is 0
abbrev pub is_free_inode : Inode → Bool
is_free_inode x = x.kind == KIND_FREE && x.links == 0 && x.blocks == 0 && x.size == 0 && x.birth == 0 && are_zero x.small && x.large == 0 && x.when == 0 && are_zero x.target

-- a file has 1 to 1,000 links and at most 1,114,112 bytes, the first 65,536 of them in small blocks of 4,096, the others in a large block;
-- it may have been written at any time, or never
abbrev pub is_file_inode : Inode → Bool
is_file_inode x =
    x.kind == KIND_FILE && nat_le 1 x.links && nat_le x.links LINKS_MAX && nat_le x.size FILE_BYTES_MAX && x.blocks == small_blocks_of x.size && ends_blocks x
    && (if nat_lt SMALL_BYTES_MAX x.size then nat_lt 0 x.large else x.large == 0) && are_zero x.target

-- a directory has one link and at most 16 blocks, each with room for 56 entries
abbrev pub is_directory_inode : Inode → Bool
is_directory_inode x =
    x.kind == KIND_DIRECTORY && x.links == 1 && nat_le x.blocks INODE_BLOCKS_MAX && nat_le x.size (BLOCK_ENTRIES * x.blocks) && ends_blocks x && x.large == 0 && x.when == 0 && are_zero x.target

-- a symbolic link has 1 to 1,000 links, no blocks, and a target of 1 to 384 bytes
abbrev pub is_link_inode : Inode → Bool
is_link_inode x =
    x.kind == KIND_LINK && nat_le 1 x.links && nat_le x.links LINKS_MAX && x.blocks == 0 && are_zero x.small && x.large == 0 && x.when == 0 && nat_le 1 x.size && nat_le x.size TARGET_BYTES_MAX
    && list_all is_target_byte (take x.size x.target) && are_zero (drop x.size x.target)

-- an inode that may stand on the disk
abbrev pub inode_fits : Inode → Bool
inode_fits x = is_free_inode x || is_file_inode x || is_directory_inode x || is_link_inode x

-- so many numbers of four bytes from the first byte on
abbrev pub numbers_in : ℕ → List ℕ → List ℕ
numbers_in zero bytes = []
numbers_in (suc n) bytes = number_at 4 0 bytes ∷ numbers_in n (drop 4 bytes)

-- what stands at the places of its fields
abbrev pub inode_fields : List ℕ → Inode
inode_fields block = record {
  version = number_at 8 0 block;
  kind = slice_index block 8;
  links = number_at 2 10 block;
  blocks = number_at 2 12 block;
  size = number_at 8 16 block;
  birth = number_at 8 24 block;
  small = numbers_in INODE_BLOCKS_MAX (drop 32 block);
  large = number_at 4 96 block;
  when = number_at 8 100 block;
  target = drop 128 block;
}

-- the block is the sector of this inode
abbrev pub IsInodeSector : List ℕ → Inode → Type 0
IsInodeSector block x = (block ≡ inode_bytes x) × IsTrue (inode_fits x)

-- the inode whose sector the block is
abbrev pub inode_in : List ℕ → Option Inode
inode_in block = if inode_fits (inode_fields block) && bytes_eq (inode_bytes (inode_fields block)) block then Some (inode_fields block) else None

-- the bytes of an inode that keep a file's time
abbrev pub is_time_place : ℕ → Bool
is_time_place at = nat_le 100 at && nat_lt at 108
