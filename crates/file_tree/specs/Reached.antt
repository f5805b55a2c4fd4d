-- What an operation makes of the node or the file that its path reaches.
use Rattle.std.specs.Prelude.{ℕ, Option, Some, None, Result, Ok, Err, List}
use Rattle.tree_definitions.specs.declared.cells.Cell.{Cell}
use Rattle.tree_definitions.specs.declared.node.Node.{Node}
use Rattle.tree_definitions.specs.Tree.{FileTree, node_at}
use Rattle.tree_definitions.specs.Place.{Place, Root, Taken, Free, Nowhere}
use Rattle.tree_definitions.specs.Apply.{Applied, says}
use Rattle.file_tree.specs.declared.place.Refusal.{Refusal}
use Rattle.file_tree.specs.declared.place.FileAt.{FileAt}
use Rattle.file_tree.specs.Places.{reply_of}

-- a birth that is reached, or a refusal
abbrev pub by_birth : FileTree → (ℕ → Option Node → Applied) → Result ℕ Refusal → Applied
by_birth tree next (Ok birth) = next birth (node_at tree birth)
by_birth tree next (Err refusal) = says tree (reply_of refusal)

-- a file that is reached, or a refusal
abbrev pub by_file : FileTree → (ℕ → List Cell → ℕ → ℕ → Applied) → Result FileAt Refusal → Applied
by_file tree next (Ok file) = next file.birth file.cells.now file.links file.when
by_file tree next (Err refusal) = says tree (reply_of refusal)

-- the birth of the node at a place, if there is one
abbrev pub birth_of : Place → Option ℕ
birth_of Root = Some 0
birth_of (Taken dir entries blocks name birth) = Some birth
birth_of (Free dir entries blocks name) = None
birth_of (Nowhere reply) = None

-- a file with its birth, its cells and its links
abbrev pub file_in : FileAt → ℕ × (List Cell × (ℕ × ℕ))
file_in file = (file.birth, (file.cells.now, (file.links, file.when)))
