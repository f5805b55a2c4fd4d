-- A name of a node in a directory.
use Rattle.std.specs.Prelude.{◌≡◌, ℕ, Option, Some, List}
use Rattle.tree_definitions.specs.declared.node.Node.{Node}
use Rattle.tree_definitions.specs.declared.node.Node.TheVariants.{Dir}
use Rattle.tree_definitions.specs.Entries.{entry_at}
use Rattle.tree_definitions.specs.Tree.{FileTree, node_at}
use Rattle.file_tree.specs.declared.rename.Named.{Named}

-- a node is a directory in which this name has this node
abbrev pub HasEntry : List ℕ → ℕ → Option Node → Type 0
HasEntry name birth (Some (Dir entries blocks)) = entry_at entries name ≡ Some birth
HasEntry name birth _ = ⊥

abbrev pub IsNamed : FileTree → Named → Type 0
IsNamed tree named = HasEntry named.name.now named.birth (node_at tree named.dir)
