-- A store is the picture of a tree under a naming: which inode, blocks and places its nodes and names have. A naming is given in both
-- directions, so that nothing has to be said of what differs or has one owner. It is total: the values of births that are gone don't matter.
use Rattle.std.specs.Prelude.{◌≡◌, ℕ, ◌+◌, ◌*◌, ◌/◌, ◌%◌, ◌<◌, Bool, true, false, if◌then◌else◌, nat_lt, Option, Some, None, List, [], ◌∷◌, length, is_some}
use Rattle.std.specs.List.{slice_get}
use Rattle.frang_base.specs.declared.limits.TheConstants.{BLOCK_ENTRIES, KIND_DIRECTORY, KIND_FILE, KIND_LINK, SMALL_BYTES_MAX}
use Rattle.tree_definitions.specs.declared.cells.Cell.{Cell}
use Rattle.tree_definitions.specs.declared.cells.Cell.TheVariants as cell
use Rattle.tree_definitions.specs.declared.node.Node.{Node}
use Rattle.tree_definitions.specs.declared.node.Node.TheVariants.{Dir, File, Link}
use Rattle.tree_definitions.specs.Entries.{entry_at}
use Rattle.tree_definitions.specs.Tree.{dir_blocks, small_blocks, small_blocks_of}
use Rattle.disk_definitions.specs.Store.{Store, StoredNode, StoredEntry, Use, byte_at}
use Rattle.disk_definitions.specs.Store.Use.{Fresh, Bytes, Empty, Entries}

-- nodes by their births
abbrev pub Nodes : Type 0
Nodes = ℕ → Option Node

pub record Naming : Type 0 where
  pub inode : ℕ → ℕ  -- of a birth
  pub birth : ℕ → Option ℕ  -- of an inode in use
  pub kind : ℕ → ℕ  -- of a birth
  pub stamp : ℕ → ℕ  -- of a birth: the birth that stands in its inode
  pub block : ℕ → ℕ → ℕ  -- of a birth, by index: its small blocks
  pub owner : ℕ → Option (ℕ × ℕ)  -- of a small block in use: the birth and the index
  pub was : ℕ → Bool  -- a free small block was a directory's
  pub large : ℕ → ℕ  -- of a birth: its large block
  pub large_owner : ℕ → Option ℕ  -- of a large block in use: the birth
  pub spot : ℕ → List ℕ → ℕ  -- of a directory and a name: the place, 56 to a block

-- 1 for a file, 2 for a directory, 3 for a link
abbrev pub kind_of : Node → ℕ
kind_of (Dir entries blocks) = KIND_DIRECTORY
kind_of (File cells links when) = KIND_FILE
kind_of (Link target links) = KIND_LINK

-- the small blocks of a node
abbrev pub blocks_of : Option Node → ℕ
blocks_of None = 0
blocks_of (Some node) = small_blocks node

-- the node has a large block
abbrev pub has_large : Option Node → Bool
has_large None = false
has_large (Some (Dir entries blocks)) = false
has_large (Some (File cells links when)) = nat_lt SMALL_BYTES_MAX (length cells)
has_large (Some (Link target links)) = false

-- the blocks of a directory
abbrev pub room_in : Option Node → ℕ
room_in None = 0
room_in (Some node) = dir_blocks node

-- the birth of a name in a directory
abbrev pub find_in : Option Node → List ℕ → Option ℕ
find_in None name = None
find_in (Some (Dir entries blocks)) name = entry_at entries name
find_in (Some (File cells links when)) name = None
find_in (Some (Link target links)) name = None

-- a cell of a file
abbrev pub cell_in : Option Node → ℕ → Option Cell
cell_in None j = None
cell_in (Some (Dir entries blocks)) j = None
cell_in (Some (File cells links when)) j = slice_get cells j
cell_in (Some (Link target links)) j = None

-- the first so many of the blocks, and 0 after them
abbrev pub first_blocks : ℕ → (ℕ → ℕ) → ℕ → ℕ
first_blocks count block j = if nat_lt j count then block j else 0

-- the inode of a node with these blocks
abbrev pub inode_of : ℕ → (ℕ → ℕ) → ℕ → Node → StoredNode
inode_of stamp block large (Dir entries blocks) =
    record { kind = KIND_DIRECTORY; links = 1; size = length entries; birth = stamp; blocks = blocks; small = first_blocks blocks block; large = 0; when = 0; target = [] }
inode_of stamp block large (File cells links when) = record {
  kind = KIND_FILE;
  links = links;
  size = length cells;
  birth = stamp;
  blocks = small_blocks_of (length cells);
  small = first_blocks (small_blocks_of (length cells)) block;
  large = if nat_lt SMALL_BYTES_MAX (length cells) then large + 1 else 0;
  when = when;
  target = [];
}
inode_of stamp block large (Link target links) =
    record { kind = KIND_LINK; links = links; size = length target; birth = stamp; blocks = 0; small = first_blocks 0 block; large = 0; when = 0; target = target }

abbrev pub inode_by : Naming → ℕ → Option Node → Option StoredNode
inode_by n b None = None
inode_by n b (Some node) = Some (inode_of (n.stamp b) (n.block b) (n.large b) node)

-- the inode that a birth makes, free where there is none
abbrev pub inode_for : Naming → Nodes → Option ℕ → Option StoredNode
inode_for n at None = None
inode_for n at (Some b) = inode_by n b (at b)

abbrev pub use_by : Option Node → Use
use_by None = Fresh
use_by (Some (Dir entries blocks)) = Entries
use_by (Some (File cells links when)) = Bytes
use_by (Some (Link target links)) = Fresh

-- what a small block is used for, by its owner
abbrev pub use_for : Bool → Nodes → Option (ℕ × ℕ) → Use
use_for was at None = if was then Empty else Fresh
use_for was at (Some o) = use_by (at o.0)

-- the entry of a name
abbrev pub entry_of : Naming → List ℕ → ℕ → StoredEntry
entry_of n name b = record { name = name; inode = n.inode b; kind = n.kind b }

-- what stands at a place of a directory with these blocks
abbrev pub place_of : (ℕ → ℕ → Option StoredEntry) → (ℕ → ℕ) → ℕ → Option StoredEntry
place_of place block q = place (block (q / BLOCK_ENTRIES)) (q % BLOCK_ENTRIES)

abbrev pub dir_place : Store → Naming → ℕ → ℕ → Option StoredEntry
dir_place s n d = place_of s.place (n.block d)

-- a byte of a file
abbrev pub file_byte : Store → Naming → ℕ → ℕ → ℕ
file_byte s n b j = byte_at s (n.block b) (n.large b) j

-- a byte that a cell allows: a doubtful cell allows any
abbrev pub Allows : Cell → ℕ → Type 0
Allows (cell.Byte x) v = v ≡ x
Allows cell.Doubtful v = Unit {0}

-- the store is the picture of these nodes under the naming
pub record Pictures (s : Store) (at : Nodes) (n : Naming) : Type 0 where
  pub inodes : (i : ℕ) → s.inode i ≡ inode_for n at (n.birth i)
  pub bits : (i : ℕ) → s.bit i ≡ is_some (n.birth i)
  pub numbered : (b : ℕ) → is_some (at b) ≡ true → n.birth (n.inode b) ≡ Some b
  pub whose : (i b : ℕ) → n.birth i ≡ Some b → (n.inode b ≡ i) × (is_some (at b) ≡ true)
  pub kinds : (b : ℕ) (x : Node) → at b ≡ Some x → n.kind b ≡ kind_of x
  pub owned : (b j : ℕ) → j < blocks_of (at b) → n.owner (n.block b j) ≡ Some (b, j)
  pub owners : (k b j : ℕ) → n.owner k ≡ Some (b, j) → (n.block b j ≡ k) × (j < blocks_of (at b))
  pub uses : (k : ℕ) → s.use_of k ≡ use_for (n.was k) at (n.owner k)
  pub emptied : (k p : ℕ) → p < BLOCK_ENTRIES → s.use_of k ≡ Empty → s.place k p ≡ None
  pub larges : (b : ℕ) → has_large (at b) ≡ true → n.large_owner (n.large b) ≡ Some b
  pub large_owners : (g b : ℕ) → n.large_owner g ≡ Some b → (n.large b ≡ g) × (has_large (at b) ≡ true)
  pub large_bits : (g : ℕ) → s.large_bit g ≡ is_some (n.large_owner g)
  pub names : (d b : ℕ) (m : List ℕ) → find_in (at d) m ≡ Some b → (n.spot d m < BLOCK_ENTRIES * room_in (at d)) × (dir_place s n d (n.spot d m) ≡ Some (entry_of n m b))
  pub places : (d q : ℕ) (e : StoredEntry) → q < BLOCK_ENTRIES * room_in (at d) → dir_place s n d q ≡ Some e → (n.spot d e.name ≡ q) × (is_some (find_in (at d) e.name) ≡ true)
  pub bytes : (b j : ℕ) (c : Cell) → cell_in (at b) j ≡ Some c → Allows c (file_byte s n b j)
