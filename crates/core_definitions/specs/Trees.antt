-- How the host reads the tree at the end, and the lines that it says of it.
use Rattle.std.specs.Prelude.{ℕ, zero, suc, ◌*◌, ◌/◌, ◌%◌, ◌==◌, Bool, true, false, not, if◌then◌else◌, Option, Some, None, is_some, List, [], ◌∷◌, ◌++◌, filter, fold, length, map}
use Rattle.std.specs.List.{filter_map, flat_map}
use Rattle.std.specs.Option.{option_map}
use Rattle.frang_base.specs.declared.limits.TheConstants.{BLOCK_ENTRIES, KIND_DIRECTORY, KIND_FILE, KIND_LINK, ROOT_INODE, SECTOR_ENTRIES, SMALL_BLOCK_SECTORS}
use Rattle.frang_base.specs.declared.said.Said.{Said}
use Rattle.frang_base.specs.declared.said.Said.TheVariants as said
use Rattle.tree_definitions.specs.Entries.{Entries, with_entry}
use Rattle.tree_definitions.specs.Numbers.{below}
use Rattle.tree_definitions.specs.TreeLines.{name_below, path_text}
use Rattle.sector_bytes.specs.Blocks.{Block}
use Rattle.sector_bytes.specs.Sectors.{sectors_of}
use Rattle.sector_bytes.specs.SectorMaps.{value_at}
use Rattle.disk_definitions.specs.declared.region.Region.{Region}
use Rattle.disk_definitions.specs.declared.region.Region.TheVariants as region
use Rattle.disk_definitions.specs.Directories.{directory_in}
use Rattle.disk_definitions.specs.Inodes.{inode_in}
use Rattle.disk_definitions.specs.Regions.{region_of, sector_of}
use Rattle.disk_definitions.specs.Store.{Store, StoredEntry, StoredNode, entry_in, store_of, stored_node}
use Rattle.disk_definitions.specs.Written.{ascending}

-- the sectors that the host has read, ascending
abbrev pub TreeRead : Type 0
TreeRead = List (ℕ × Block)

-- ---- what it needs

abbrev pub inode_sector : ℕ → ℕ
inode_sector inode = sector_of (region.Inode inode)

-- the sectors of a directory's blocks
abbrev pub block_sectors : ℕ → List ℕ
block_sectors block = map (λ part. sector_of (region.Small block part)) (below SMALL_BLOCK_SECTORS)

abbrev pub directory_sectors : Option StoredNode → List ℕ
directory_sectors None = []
directory_sectors (Some node) = if node.kind == KIND_DIRECTORY then flat_map (λ index. block_sectors (node.small index)) (below node.blocks) else []

-- the inodes of the entries of a directory's sector
abbrev pub entry_inodes : Block → List ℕ
entry_inodes block = filter_map (λ slot. option_map (λ entry. inode_sector entry.inode) (entry_in (directory_in block) slot)) (below SECTOR_ENTRIES)

-- what a sector that was read shows to be needed
abbrev pub shown_by : Option Region → Block → List ℕ
shown_by (Some (region.Inode inode)) block = directory_sectors (stored_node (inode_in block))
shown_by (Some (region.Small number part)) block = entry_inodes block
shown_by _ block = []

-- all sectors known to be needed and not read yet, ascending: the root's inode, the sectors of each directory whose inode was read, the inode of each entry read
abbrev pub needed_sectors : ℕ → TreeRead → List ℕ
needed_sectors segments read =
    filter (λ sector. not (is_some (value_at read sector)))
    (ascending (inode_sector ROOT_INODE ∷ flat_map (λ entry. shown_by (region_of segments entry.0) entry.1) read))

-- ---- its lines

-- the entries of a directory, in order of their names' bytes
abbrev pub entries_from : Store → StoredNode → List StoredEntry
entries_from store node =
    filter_map (λ index. store.place (node.small (index / BLOCK_ENTRIES)) (index % BLOCK_ENTRIES)) (below (BLOCK_ENTRIES * node.blocks))

abbrev pub sorted_entries : List StoredEntry → Entries
sorted_entries entries = fold (λ sorted entry. with_entry sorted entry.name entry.inode) [] entries

-- a node's own line, and behind a directory's those of its entries
abbrev pub lines_at : (List ℕ → ℕ → List Said) → Store → List ℕ → Option StoredNode → List Said
lines_at onward store text None = []
lines_at onward store text (Some node) =
    if node.kind == KIND_DIRECTORY
    then said.Node (path_text text) KIND_DIRECTORY node.size 0 ∷ flat_map (λ entry. onward (name_below text entry.0) entry.1) (sorted_entries (entries_from store node))
    else (if node.kind == KIND_FILE then said.Node (path_text text) KIND_FILE node.size node.links ∷ [] else said.Node (path_text text) KIND_LINK node.size 0 ∷ [])

-- so many levels deep
abbrev pub lines_from : ℕ → Store → List ℕ → ℕ → List Said
lines_from zero store text inode = []
lines_from (suc depth) store text inode = lines_at (lines_from depth store) store text (store.inode inode)

-- a tree of which n sectors were read has at most n levels
abbrev pub read_lines : ℕ → TreeRead → List Said
read_lines segments read = lines_from (length read) (store_of segments (sectors_of read)) [] ROOT_INODE
