-- Trees that are the same but for the births of their nodes.
use Rattle.std.specs.Prelude.{◌≡◌, ℕ, true, Some, List, length, is_some}
use Rattle.std.specs.List.{slice_get}
use Rattle.std.specs.Option.{option_map}
use Rattle.tree_definitions.specs.declared.cells.Cell.{Cell}
use Rattle.tree_definitions.specs.declared.cells.Cell.TheVariants as cell
use Rattle.tree_definitions.specs.declared.node.Node.{Node}
use Rattle.tree_definitions.specs.declared.node.Node.TheVariants.{Dir, File, Link}
use Rattle.tree_definitions.specs.Entries.{Entries, entry_at}
use Rattle.tree_definitions.specs.Tree.{FileTree, node_at}

-- cells agree where both are bytes
abbrev pub CellsAgree : List Cell → List Cell → Type 0
CellsAgree one two = (length one ≡ length two) × ((j x y : ℕ) → slice_get one j ≡ Some (cell.Byte x) → slice_get two j ≡ Some (cell.Byte y) → x ≡ y)

-- the names are the same, and their births renamed
abbrev pub EntriesAgree : (ℕ → ℕ) → Entries → Entries → Type 0
EntriesAgree to one two = (name : List ℕ) → entry_at two name ≡ option_map to (entry_at one name)

-- nodes of one kind with the same links, blocks, cells, time, target and names
abbrev pub SameNode : (ℕ → ℕ) → Node → Node → Type 0
SameNode to (Dir entries blocks) (Dir others room) = EntriesAgree to entries others × (blocks ≡ room)
SameNode to (Dir entries blocks) (File cells links when) = ⊥
SameNode to (Dir entries blocks) (Link target links) = ⊥
SameNode to (File cells links when) (Dir others room) = ⊥
SameNode to (File cells links when) (File bytes names since) = CellsAgree cells bytes × (links ≡ names) × (when ≡ since)
SameNode to (File cells links when) (Link target names) = ⊥
SameNode to (Link target links) (Dir others room) = ⊥
SameNode to (Link target links) (File bytes names since) = ⊥
SameNode to (Link target links) (Link other names) = (target ≡ other) × (links ≡ names)

-- the births of the first tree become those of the second, one by one, the root's the root's, and the nodes are the same
pub record IsRenaming (to back : ℕ → ℕ) (one two : FileTree) : Type 0 where
  pub segments : one.segments ≡ two.segments
  pub root : to 0 ≡ 0
  pub forth : (b : ℕ) → is_some (node_at one b) ≡ true → (is_some (node_at two (to b)) ≡ true) × (back (to b) ≡ b)
  pub home : (b : ℕ) → is_some (node_at two b) ≡ true → (is_some (node_at one (back b)) ≡ true) × (to (back b) ≡ b)
  pub nodes : (b : ℕ) (x y : Node) → node_at one b ≡ Some x → node_at two (to b) ≡ Some y → SameNode to x y
