-- The file tree: nodes by their births, and what they take of the disk.
use Rattle.std.specs.Prelude.{ℕ, ◌+◌, ◌-◌, ◌*◌, ◌/◌, Bool, false, min, if◌then◌else◌, nat_lt, nat_le, Option, List, [], ◌∷◌, length, sum_by}
use Rattle.std.specs.Ordering.{nat_cmp}
use Rattle.std.specs.Map.{lookup, remove_entry, values_of}
use Rattle.std.specs.BTreeMap.{is_at, insert_entry}
use Rattle.frang_base.specs.declared.limits.TheConstants.{BLOCK_ENTRIES, DIRECTORY_ENTRIES_MAX, SEGMENT_BLOCKS, SEGMENT_INODES, SMALL_BLOCK_BYTES, SMALL_BYTES_MAX}
use Rattle.tree_definitions.specs.declared.node.Node.{Node}
use Rattle.tree_definitions.specs.declared.node.Node.TheVariants.{Dir, File, Link}
use Rattle.tree_definitions.specs.Entries.{Entries}

-- the number of segments of the disk, and the nodes with their births, in ascending order; the root's birth is 0
pub record FileTree : Type 0 where
  pub segments : ℕ
  pub nodes : List (ℕ × Node)

-- the root alone, with no blocks
abbrev pub fresh : ℕ → FileTree
fresh segments = record { segments = segments; nodes = (0, Dir [] 0) ∷ [] }

-- the node of this birth
abbrev pub node_at : FileTree → ℕ → Option Node
node_at tree birth = lookup (is_at (nat_cmp birth)) tree.nodes

-- this birth has this node
abbrev pub with_node : FileTree → ℕ → Node → FileTree
with_node tree birth node = record tree { nodes = insert_entry nat_cmp tree.nodes birth node }

-- this birth has no node
abbrev pub without_node : FileTree → ℕ → FileTree
without_node tree birth = record tree { nodes = remove_entry (is_at (nat_cmp birth)) tree.nodes }

-- the small blocks that the first bytes of a file take
abbrev pub small_blocks_of : ℕ → ℕ
small_blocks_of size = (min size SMALL_BYTES_MAX + (SMALL_BLOCK_BYTES - 1)) / SMALL_BLOCK_BYTES

-- the one large block that takes the bytes of a file past those
abbrev pub large_blocks_of : ℕ → ℕ
large_blocks_of size = if nat_lt SMALL_BYTES_MAX size then 1 else 0

-- the small blocks of a directory
abbrev pub dir_blocks : Node → ℕ
dir_blocks (Dir entries blocks) = blocks
dir_blocks (File cells links when) = 0
dir_blocks (Link target links) = 0

-- the small blocks of a file
abbrev pub file_blocks : Node → ℕ
file_blocks (Dir entries blocks) = 0
file_blocks (File cells links when) = small_blocks_of (length cells)
file_blocks (Link target links) = 0

-- the small blocks of a node
abbrev pub small_blocks : Node → ℕ
small_blocks (Dir entries blocks) = blocks
small_blocks (File cells links when) = small_blocks_of (length cells)
small_blocks (Link target links) = 0

-- the large blocks of a node
abbrev pub large_blocks : Node → ℕ
large_blocks (Dir entries blocks) = 0
large_blocks (File cells links when) = large_blocks_of (length cells)
large_blocks (Link target links) = 0

-- a count over the whole tree
abbrev pub count_of : (Node → ℕ) → FileTree → ℕ
count_of count tree = sum_by count (values_of tree.nodes)

-- all inodes are in use
abbrev pub inodes_full : FileTree → Bool
inodes_full tree = nat_le (SEGMENT_INODES * tree.segments) (length tree.nodes)

-- all small blocks are in use
abbrev pub blocks_full : FileTree → Bool
blocks_full tree = nat_le (SEGMENT_BLOCKS * tree.segments) (count_of small_blocks tree)

-- one large block a segment is in use
abbrev pub larges_full : FileTree → Bool
larges_full tree = nat_le tree.segments (count_of large_blocks tree)

-- a directory has as many entries as it can
abbrev pub entries_full : Entries → Bool
entries_full entries = nat_le DIRECTORY_ENTRIES_MAX (length entries)

-- the entries fill their blocks, so that one entry more takes a further block
abbrev pub must_grow : Entries → ℕ → Bool
must_grow entries blocks = nat_le (BLOCK_ENTRIES * blocks) (length entries)

-- the blocks of a directory that gets one entry more; they never become fewer
abbrev pub grown : Entries → ℕ → ℕ
grown entries blocks = if must_grow entries blocks then blocks + 1 else blocks

-- one entry more takes a block, and there is none
abbrev pub lacks_block : FileTree → Entries → ℕ → Bool
lacks_block tree entries blocks = if must_grow entries blocks then blocks_full tree else false
