-- What edits write: the changes of a record, bytes of files, and the sectors that are freed; and the disk with these laid over it.
use Rattle.std.specs.Prelude.{ℕ, ◌+◌, ◌-◌, ◌/◌, ◌%◌, Bool, true, false, ◌==◌, ◌&&◌, if◌then◌else◌, Option, Some, None, List, [], ◌∷◌, ◌++◌, length, map, fold, slice_index, slice_set}
use Rattle.std.specs.List.{filter_map, flat_map, list_all, list_any}
use Rattle.std.specs.Map.{keys_of}
use Rattle.frang_base.specs.declared.limits.TheConstants.{INODE_BLOCKS_MAX, KIND_FREE, LARGE_BLOCK_SECTORS, NAME_BYTES_MAX, SECTOR_BYTES, SECTOR_ENTRIES, SEGMENT_BLOCKS, SEGMENT_INODES, SMALL_BLOCK_SECTORS, TARGET_BYTES_MAX}
use Rattle.frang_base.specs.declared.bitmap.Bitmap.{Bitmap}
use Rattle.frang_base.specs.declared.change.Patch.{Patch}
use Rattle.frang_base.specs.declared.change.Change.{Change}
use Rattle.disk_definitions.specs.declared.region.Region.TheVariants as region
use Rattle.disk_definitions.specs.declared.inode.Inode.{Inode}
use Rattle.disk_definitions.specs.declared.directory.DirEntry.{DirEntry}
use Rattle.disk_definitions.specs.declared.directory.DirSector.{DirSector}
use Rattle.sector_bytes.specs.Bytes.{zeros}
use Rattle.std.specs.Str.{bytes_eq}
use Rattle.disk_definitions.specs.Regions.{sector_of}
use Rattle.disk_definitions.specs.Inodes.{inode_bytes, inode_in, is_time_place}
use Rattle.disk_definitions.specs.Directories.{directory_bytes, directory_fields, directory_in}
use Rattle.disk_definitions.specs.Bitmaps.{bitmap_bytes, bitmap_fields}
use Rattle.sector_bytes.specs.Patches.{patches_with}
use Rattle.sector_bytes.specs.Changes.{changed}
use Rattle.sector_bytes.specs.SectorMaps.{value_at, with_value}
use Rattle.tree_definitions.specs.Numbers.{below}
use Rattle.sector_bytes.specs.Sectors.{Sectors}
use Rattle.disk_definitions.specs.Store.{StoredNode, StoredEntry, Use, stored_node, entry_in}
use Rattle.disk_definitions.specs.Store.Use.{Fresh, Bytes, Empty, Entries}
use Rattle.disk_definitions.specs.Standing.{version_at}
use Rattle.disk_definitions.specs.Held.{Segments, bitmap_of}
use Rattle.disk_definitions.specs.Taken.{with_inode, with_state, with_large}
use Rattle.disk_definitions.specs.Edits.{Edit}
use Rattle.disk_definitions.specs.Edits.Edit.{SetInode, SetBit, SetUse, SetPlace, SetLarge, SetBytes, SetLargeBytes}
use Rattle.disk_definitions.specs.Ask.{AtHand}
use Rattle.disk_definitions.specs.Plans.{Hand}

-- ---- what is said as it stands in a sector

-- the bytes, and zeros up to this length
abbrev pub padded : ℕ → List ℕ → List ℕ
padded count bytes = bytes ++ zeros (count - length bytes)

-- an inode in use, or a free one
abbrev pub inode_with : ℕ → Option StoredNode → Inode
inode_with version None =
    record {
      version = version;
      kind = KIND_FREE;
      links = 0;
      blocks = 0;
      size = 0;
      birth = 0;
      small = zeros INODE_BLOCKS_MAX;
      large = 0;
      when = 0;
      target = zeros TARGET_BYTES_MAX;
    }
inode_with version (Some node) = record {
  version = version;
  kind = node.kind;
  links = node.links;
  blocks = node.blocks;
  size = node.size;
  birth = node.birth;
  small = map node.small (below INODE_BLOCKS_MAX);
  large = node.large;
  when = node.when;
  target = padded TARGET_BYTES_MAX node.target;
}

-- an entry, or a free slot
abbrev pub place_with : Option StoredEntry → DirEntry
place_with None = record { inode = 0; len = 0; kind = KIND_FREE; name = zeros NAME_BYTES_MAX }
place_with (Some entry) = record { inode = entry.inode; len = length entry.name; kind = entry.kind; name = padded NAME_BYTES_MAX entry.name }

abbrev pub state_of : Use → ℕ
state_of Fresh = 0
state_of Bytes = 1
state_of Empty = 2
state_of Entries = 3

-- a directory's sector with this in one of its slots
abbrev pub with_place : DirSector → ℕ → Option StoredEntry → DirSector
with_place sector slot entry = record sector { entries = slice_set sector.entries slot (place_with entry) }

-- ---- the sectors after edits, whose versions stay

abbrev pub edit_sector : Edit → ℕ
edit_sector (SetInode inode stored_node dated) = sector_of (region.Inode inode)
edit_sector (SetBit inode used) = sector_of (region.Segment (inode / SEGMENT_INODES))
edit_sector (SetUse block_number state) = sector_of (region.Segment (block_number / SEGMENT_BLOCKS))
edit_sector (SetPlace block_number slot entry) = sector_of (region.Small block_number (slot / SECTOR_ENTRIES))
edit_sector (SetLarge segment used) = sector_of (region.Segment segment)
edit_sector (SetBytes block_number part bytes) = sector_of (region.Small block_number part)
edit_sector (SetLargeBytes segment part bytes) = sector_of (region.Large segment part)

-- the block of that sector after the edit; its version is still the old one
abbrev pub edited_block : List ℕ → ℕ → Edit → List ℕ
edited_block block version (SetInode inode node dated) = inode_bytes (inode_with version node)
edited_block block version (SetBit inode used) = bitmap_bytes (with_inode (bitmap_fields block) (inode % SEGMENT_INODES) used)
edited_block block version (SetUse block_number state) = bitmap_bytes (with_state (bitmap_fields block) (block_number % SEGMENT_BLOCKS) (state_of state))
edited_block block version (SetPlace block_number slot entry) = directory_bytes (with_place (directory_fields block) (slot % SECTOR_ENTRIES) entry)
edited_block block version (SetLarge segment used) = bitmap_bytes (with_large (bitmap_fields block) used)
edited_block block version (SetBytes block_number part bytes) = map bytes (below SECTOR_BYTES)
edited_block block version (SetLargeBytes segment part bytes) = map bytes (below SECTOR_BYTES)

abbrev pub edited_sectors : Sectors → Edit → Sectors
edited_sectors sectors edit sector = if sector == edit_sector edit then edited_block (sectors sector) (version_at sectors sector) edit else sectors sector

abbrev pub all_edited : Sectors → List Edit → Sectors
all_edited sectors edits = fold edited_sectors sectors edits

-- ---- the changes of a record

-- an edit of a sector with a version
abbrev pub is_metadata : Edit → Bool
is_metadata (SetBytes block part bytes) = false
is_metadata (SetLargeBytes segment part bytes) = false
is_metadata edit = true

abbrev pub metadata_sector : Edit → Option ℕ
metadata_sector edit = if is_metadata edit then Some (edit_sector edit) else None

-- numbers ascending, each once
abbrev pub with_number : List (ℕ × ℕ) → ℕ → List (ℕ × ℕ)
with_number sorted number = with_value sorted number 0

abbrev pub ascending : List ℕ → List ℕ
ascending numbers = keys_of (fold with_number [] numbers)

-- the change of a sector, where one of its bytes changes or counts as changed: the longest runs of these, and the next version
abbrev pub change_by : ℕ → ℕ → List Patch → Option Change
change_by sector version [] = None
change_by sector version (patch ∷ patches) = Some (record { sector = record { 0 = sector }; version = version; patches = patch ∷ patches })

-- the edit puts an inode with its time into this sector
abbrev pub dates : ℕ → Edit → Bool
dates sector (SetInode inode stored_node true) = sector == sector_of (region.Inode inode)
dates sector _ = false

-- the places of a sector that count as changed even where they stay: the time of a file that is written
abbrev pub forced_in : List Edit → ℕ → ℕ → Bool
forced_in edits sector at = is_time_place at && list_any (dates sector) edits

abbrev pub change_of : List Edit → Sectors → Sectors → ℕ → Option Change
change_of edits old new sector = change_by sector (version_at old sector + 1) (patches_with (forced_in edits sector) (old sector) (new sector))

abbrev pub changes_of : Sectors → List Edit → List Change
changes_of sectors edits = filter_map (change_of edits sectors (all_edited sectors edits)) (ascending (filter_map metadata_sector edits))

-- ---- bytes of files

abbrev pub byte_write : Edit → Option (ℕ × List ℕ)
byte_write edit = if is_metadata edit then None else Some (edit_sector edit, edited_block [] 0 edit)

abbrev pub byte_writes : List Edit → List (ℕ × List ℕ)
byte_writes edits = filter_map byte_write edits

-- the sectors of the blocks of file bytes that are given back, ascending
abbrev pub sectors_given_back : Edit → List ℕ
sectors_given_back (SetUse block Fresh) = map (λ part. sector_of (region.Small block part)) (below SMALL_BLOCK_SECTORS)
sectors_given_back (SetLarge segment false) = map (λ part. sector_of (region.Large segment part)) (below LARGE_BLOCK_SECTORS)
sectors_given_back _ = []

abbrev pub freed_sectors : List Edit → List ℕ
freed_sectors edits = ascending (flat_map sectors_given_back edits)

-- ---- the disk with them

abbrev pub with_change : Sectors → Change → Sectors
with_change sectors change sector = if sector == change.sector.0 then changed (sectors sector) change else sectors sector

abbrev pub with_bytes : Sectors → ℕ × List ℕ → Sectors
with_bytes sectors written sector = if sector == written.0 then written.1 else sectors sector

abbrev pub laid_over : Sectors → List Change → List (ℕ × List ℕ) → Sectors
laid_over sectors changes bytes = fold with_bytes (fold with_change sectors changes) bytes

-- ---- what is at hand of cached sectors and held segments

-- the sectors that are cached
abbrev pub Cached : Type 0
Cached = List (ℕ × List ℕ)

abbrev pub inode_at_hand : Cached → ℕ → Option (Option StoredNode)
inode_at_hand cached inode = said (value_at cached (sector_of (region.Inode inode)))
  where
    said : Option (List ℕ) → Option (Option StoredNode)
    said None = None
    said (Some block) = Some (stored_node (inode_in block))

abbrev pub directory_at_hand : Cached → ℕ → ℕ → Option (ℕ → Option StoredEntry)
directory_at_hand cached block_number part = said (value_at cached (sector_of (region.Small block_number part)))
  where
    said : Option (List ℕ) → Option (ℕ → Option StoredEntry)
    said None = None
    said (Some block) = Some (entry_in (directory_in block))

abbrev pub bytes_at_hand : Cached → ℕ → Option (ℕ → ℕ)
bytes_at_hand cached sector = said (value_at cached sector)
  where
    said : Option (List ℕ) → Option (ℕ → ℕ)
    said None = None
    said (Some block) = Some (slice_index block)

abbrev pub is_held : Segments → ℕ → Bool
is_held held segment = is_there (bitmap_of held segment)
  where
    is_there : Option Bitmap → Bool
    is_there None = false
    is_there (Some bitmap) = true

abbrev pub at_hand : Cached → Segments → AtHand
at_hand cached held = record {
  inode = inode_at_hand cached;
  directory = directory_at_hand cached;
  segment = is_held held;
  bytes = λ block part. bytes_at_hand cached (sector_of (region.Small block part));
  large = λ segment part. bytes_at_hand cached (sector_of (region.Large segment part));
}

-- the eight sectors of a small block are cached as zero
abbrev pub is_zero_at_hand : Cached → ℕ → Bool
is_zero_at_hand cached sector = is_zero (value_at cached sector)
  where
    is_zero : Option (List ℕ) → Bool
    is_zero None = false
    is_zero (Some block) = bytes_eq (zeros SECTOR_BYTES) block

abbrev pub is_zeroed : Cached → ℕ → Bool
is_zeroed cached block = list_all (λ part. is_zero_at_hand cached (sector_of (region.Small block part))) (below SMALL_BLOCK_SECTORS)

-- the sectors of the held segments, by their bitmaps
abbrev pub segment_sectors : Segments → Cached
segment_sectors held = map (λ one. (sector_of (region.Segment one.0), bitmap_bytes one.1)) held

-- the held segments and the cached sectors as sectors of a disk; those that are neither are asked for by nobody
abbrev pub sectors_at_hand : Cached → Segments → Sectors
sectors_at_hand cached held sector = or_cached (value_at (segment_sectors held) sector)
  where
    or_zeros : Option (List ℕ) → List ℕ
    or_zeros None = zeros SECTOR_BYTES
    or_zeros (Some block) = block

    or_cached : Option (List ℕ) → List ℕ
    or_cached None = or_zeros (value_at cached sector)
    or_cached (Some block) = block

-- the held segments, whether these are all, and the blocks that are cached as zero
abbrev pub hand_of : Cached → Segments → Bool → Hand
hand_of cached held all = record { held = held; all = all; zeroed = is_zeroed cached }
