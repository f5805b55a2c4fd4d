-- The tree that is read off a disk: a node for each inode in use, whose birth is the inode's number.
use Rattle.std.specs.Prelude.{ℕ, zero, suc, ◌-◌, ◌*◌, ◌/◌, ◌%◌, ◌==◌, if◌then◌else◌, nat_lt, Option, Some, None, List, [], ◌∷◌, ◌++◌}
use Rattle.std.specs.Ordering.{nat_cmp}
use Rattle.std.specs.BTreeMap.{insert_entry}
use Rattle.frang_base.specs.declared.limits.TheConstants.{BLOCK_ENTRIES, KIND_DIRECTORY, KIND_FILE, SEGMENT_INODES, SMALL_BLOCK_BYTES, SMALL_BYTES_MAX}
use Rattle.tree_definitions.specs.declared.cells.Cell.{Cell}
use Rattle.tree_definitions.specs.declared.cells.Cell.TheVariants as cell
use Rattle.tree_definitions.specs.declared.node.Node.{Node}
use Rattle.tree_definitions.specs.declared.node.Node.TheVariants.{Dir, File, Link}
use Rattle.tree_definitions.specs.Entries.{Entries, with_entry}
use Rattle.tree_definitions.specs.Tree.{FileTree}
use Rattle.sector_bytes.specs.Sectors.{Sectors}
use Rattle.disk_definitions.specs.Store.{Store, StoredNode, StoredEntry, store_of}
use Rattle.disk_definitions.specs.Naming.{place_of}

-- what stands at a place of a directory
abbrev pub place_at : Store → StoredNode → ℕ → Option StoredEntry
place_at s x = place_of s.place x.small

-- the entries with that of a place
abbrev pub with_place : Entries → Option StoredEntry → Entries
with_place entries None = entries
with_place entries (Some e) = with_entry entries e.name e.inode

-- the entries of the first n places, in order of block, sector and place
abbrev pub entries_to : (ℕ → Option StoredEntry) → ℕ → Entries
entries_to place zero = []
entries_to place (suc n) = with_place (entries_to place n) (place n)

-- a byte of a file
abbrev pub byte_at : Store → StoredNode → ℕ → ℕ
byte_at s x j = if nat_lt j SMALL_BYTES_MAX then s.byte (x.small (j / SMALL_BLOCK_BYTES)) (j % SMALL_BLOCK_BYTES) else s.large_byte (x.large - 1) (j - SMALL_BYTES_MAX)

-- the cells of the first n bytes
abbrev pub cells_to : (ℕ → ℕ) → ℕ → List Cell
cells_to byte zero = []
cells_to byte (suc n) = cells_to byte n ++ cell.Byte (byte n) ∷ []

-- the node of an inode in use
abbrev pub read_node : Store → StoredNode → Node
read_node s x =
    if x.kind == KIND_DIRECTORY then Dir (entries_to (place_at s x) (BLOCK_ENTRIES * x.blocks)) x.blocks
    else (if x.kind == KIND_FILE then File (cells_to (byte_at s x) x.size) x.links x.when else Link x.target x.links)

-- the nodes with that of an inode
abbrev pub with_inode : Store → List (ℕ × Node) → ℕ → Option StoredNode → List (ℕ × Node)
with_inode s nodes i None = nodes
with_inode s nodes i (Some x) = insert_entry nat_cmp nodes i (read_node s x)

-- the nodes of the first n inodes
abbrev pub nodes_to : Store → ℕ → List (ℕ × Node)
nodes_to s zero = []
nodes_to s (suc n) = with_inode s (nodes_to s n) n (s.inode n)

-- the tree of so many segments
abbrev pub tree_in : ℕ → Store → FileTree
tree_in segments s = record { segments = segments; nodes = nodes_to s (SEGMENT_INODES * segments) }

-- the tree that these sectors say
abbrev pub read_tree : ℕ → Sectors → FileTree
read_tree segments sectors = tree_in segments (store_of segments sectors)
