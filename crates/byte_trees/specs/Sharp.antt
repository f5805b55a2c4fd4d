-- Trees with a byte for each cell of their files.
use Rattle.std.specs.Prelude.{◌≡◌, ℕ, suc, true, false, Some, List, [], ◌∷◌, map}
use Rattle.tree_definitions.specs.declared.cells.Cell.{Cell}
use Rattle.tree_definitions.specs.declared.cells.Cell.TheVariants.{Byte}
use Rattle.tree_definitions.specs.declared.history.Entry.{Entry}
use Rattle.tree_definitions.specs.declared.node.Node.{Node}
use Rattle.tree_definitions.specs.declared.node.Node.TheVariants.{Dir, File, Link}
use Rattle.tree_definitions.specs.History.{applied, is_answer, leaves_tree, tree_after}
use Rattle.tree_definitions.specs.Touched.{shape_of}
use Rattle.tree_definitions.specs.Tree.{FileTree, node_at}
use Rattle.tree_definitions.specs.WellFormed.{IsNew, IsWellFormed}
use Rattle.disk_definitions.specs.Naming.{Allows, cell_in}

-- at each place of the file of each birth this byte stands: the tree's cells name no others, and one in doubt allows any
abbrev pub NamesNoOthers : FileTree → (ℕ → ℕ → ℕ) → Type 0
NamesNoOthers tree bytes = (birth at : ℕ) (cell : Cell) → cell_in (node_at tree birth) at ≡ Some cell → Allows cell (bytes birth at)

-- as many cells, each the byte that stands there
abbrev pub standing : (ℕ → ℕ) → List Cell → List Cell
standing bytes [] = []
standing bytes (cell ∷ cells) = Byte (bytes 0) ∷ standing (λ at. bytes (suc at)) cells

abbrev pub sharp_node : (ℕ → ℕ) → Node → Node
sharp_node bytes (Dir entries blocks) = Dir entries blocks
sharp_node bytes (File cells links when) = File (standing bytes cells) links when
sharp_node bytes (Link target links) = Link target links

-- the tree that has each byte that stands
abbrev pub sharp : (ℕ → ℕ → ℕ) → FileTree → FileTree
sharp bytes tree = record tree { nodes = map (λ n. (n.0, sharp_node (bytes n.0) n.1)) tree.nodes }

-- it is as well formed, of the same shape, and names no others
pub record StandsSharp (bytes : ℕ → ℕ → ℕ) (tree : FileTree) : Type 0 where
  pub well_formed : IsWellFormed (sharp bytes tree)
  pub shape : shape_of (sharp bytes tree) ≡ shape_of tree
  pub names : NamesNoOthers (sharp bytes tree) bytes

abbrev pub SharpTreesStand : Type 0
SharpTreesStand = (bytes : ℕ → ℕ → ℕ) (tree : FileTree) → IsWellFormed tree → StandsSharp bytes tree

-- an entry is an answer, and after it the cells name no others than these
pub record KeepsWhatStands (tree : FileTree) (e : Entry) (bytes : ℕ → ℕ → ℕ) : Type 0 where
  pub answer : is_answer tree e ≡ true
  pub names : NamesNoOthers (tree_after tree e) bytes

abbrev pub AnswersKeepWhatStands : Type 0
AnswersKeepWhatStands =
    (tree : FileTree) (e : Entry) (bytes after : ℕ → ℕ → ℕ) → IsWellFormed tree → IsNew tree e.number.0 → NamesNoOthers tree bytes → leaves_tree e.op e.reply ≡ false →
    is_answer (sharp bytes tree) e ≡ true → NamesNoOthers (applied (sharp bytes tree) e).tree after → KeepsWhatStands tree e after
