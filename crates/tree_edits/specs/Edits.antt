-- What becomes of a node that is changed where it stands.
use Rattle.std.specs.Prelude.{◌≡◌, ℕ, ◌+◌, ◌≤◌, Option, Some, None, IsSome, List, length, take}
use Rattle.std.specs.Ordering.{nat_cmp}
use Rattle.std.specs.List.Sorted.{IsStrictlySortedBy}
use Rattle.std.specs.Map.{keys_of, lookup, set_value}
use Rattle.std.specs.BTreeMap.{is_at}
use Rattle.frang_base.specs.declared.limits.TheConstants.{FILE_BYTES_MAX}
use Rattle.tree_definitions.specs.declared.cells.Cell.{Cell}
use Rattle.tree_definitions.specs.declared.node.Node.{Node}
use Rattle.tree_definitions.specs.declared.node.Node.TheVariants.{Dir, File, Link}
use Rattle.tree_definitions.specs.Entries.{entry_at, with_entry, without_entry}
use Rattle.tree_definitions.specs.Tree.{FileTree, node_at, with_node}
use Rattle.tree_definitions.specs.Apply.{overwritten}
use Rattle.tree_definitions.specs.History.{doubted_cells}

-- a directory loses a name
abbrev pub without_name : List ℕ → Node → Node
without_name name (Dir entries blocks) = Dir (without_entry entries name) blocks
without_name name (File cells links when) = File cells links when
without_name name (Link target links) = Link target links

-- a directory has this node at a name
abbrev pub with_name : List ℕ → ℕ → Node → Node
with_name name birth (Dir entries blocks) = Dir (with_entry entries name birth) blocks
with_name name birth (File cells links when) = File cells links when
with_name name birth (Link target links) = Link target links

-- a directory has so many blocks
abbrev pub with_blocks : ℕ → Node → Node
with_blocks n (Dir entries blocks) = Dir entries n
with_blocks n (File cells links when) = File cells links when
with_blocks n (Link target links) = Link target links

-- a node that is no directory has so many names
abbrev pub with_links : ℕ → Node → Node
with_links n (Dir entries blocks) = Dir entries blocks
with_links n (File cells links when) = File cells n when
with_links n (Link target links) = Link target n

-- a file's cells from an offset on are these, and its time is this
abbrev pub with_cells : ℕ → ℕ → List Cell → Node → Node
with_cells when off new (File cells links before) = File (overwritten cells off new) links when
with_cells when off new (Dir entries blocks) = Dir entries blocks
with_cells when off new (Link target links) = Link target links

-- a file keeps its first cells, and its time is this
abbrev pub with_first : ℕ → ℕ → Node → Node
with_first when len (File cells links before) = File (take len cells) links when
with_first when len (Dir entries blocks) = Dir entries blocks
with_first when len (Link target links) = Link target links

-- cells of a file come into doubt
abbrev pub with_doubt : ℕ → ℕ → Node → Node
with_doubt from count (File cells links when) = File (doubted_cells cells from count) links when
with_doubt from count (Dir entries blocks) = Dir entries blocks
with_doubt from count (Link target links) = Link target links

-- cells may be put into a file from an offset on, up to its greatest size
abbrev pub CanPut : ℕ → List Cell → Node → Type 0
CanPut off new (File cells links when) = (off ≤ length cells) × (off + length new ≤ FILE_BYTES_MAX)
CanPut off new _ = Unit {0}

-- a directory has the name
abbrev pub Names : List ℕ → Node → Type 0
Names name (Dir entries blocks) = IsSome (entry_at entries name)
Names name _ = Unit {0}

-- among the nodes, the one of a birth is changed, if there is one
pub record IsEdited (edit : Node → Node) (nodes : List (ℕ × Node)) (birth : ℕ) (after : List (ℕ × Node)) : Type 0 where
  pub ordered : IsStrictlySortedBy nat_cmp (keys_of nodes)
  pub there : (node : Node) → lookup (is_at (nat_cmp birth)) nodes ≡ Some node → after ≡ set_value (is_at (nat_cmp birth)) nodes (edit node)
  pub absent : lookup (is_at (nat_cmp birth)) nodes ≡ None → after ≡ nodes

-- the same of a tree
abbrev pub edited_by : FileTree → ℕ → (Node → Node) → Option Node → FileTree
edited_by tree birth edit (Some node) = with_node tree birth (edit node)
edited_by tree birth edit None = tree

abbrev pub edited : FileTree → ℕ → (Node → Node) → FileTree
edited tree birth edit = edited_by tree birth edit (node_at tree birth)
