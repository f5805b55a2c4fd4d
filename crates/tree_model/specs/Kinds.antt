-- Kinds of nodes, and what a path reaches of a kind.
use Rattle.std.specs.Prelude.{ℕ, Bool, not, Option, Some, None, List, []}
use Rattle.tree_definitions.specs.declared.node.Node.{Node}
use Rattle.tree_definitions.specs.Tree.{FileTree, node_at}
use Rattle.tree_definitions.specs.Touched.{any_node, dir_node, file_node, link_node, reached_if}
use Rattle.tree_model.specs.declared.touch.Kind.{Kind}
use Rattle.tree_model.specs.declared.touch.Kind.TheVariants.{Any, NoDir, Dir, File, Link}

-- the nodes of a kind
abbrev pub is_kind : Kind → Node → Bool
is_kind Any = any_node
is_kind NoDir = λ n. not (dir_node n)
is_kind Dir = dir_node
is_kind File = file_node
is_kind Link = link_node

-- the node of a birth that is reached, where it is as wanted
abbrev pub reached_by : FileTree → (Node → Bool) → Option ℕ → List ℕ
reached_by tree wanted (Some birth) = reached_if wanted birth (node_at tree birth)
reached_by tree wanted None = []
