-- What a read that showed bytes makes of a tree.
use Rattle.std.specs.Prelude.{ℕ, Bool, false, if◌then◌else◌, nat_lt, Option, Some, None, List, length, take, drop}
use Rattle.tree_definitions.specs.declared.cells.Cell.{Cell}
use Rattle.tree_definitions.specs.declared.node.Node.{Node}
use Rattle.tree_definitions.specs.declared.node.Node.TheVariants.{Dir, File, Link}
use Rattle.tree_definitions.specs.Tree.{FileTree}
use Rattle.tree_definitions.specs.History.{cells_show, with_shown}

-- the cells of a file show bytes from an offset on
abbrev pub file_shows : Option (ℕ × (List Cell × (ℕ × ℕ))) → ℕ → ℕ → List ℕ → Bool
file_shows None off len bytes = false
file_shows (Some file) off len bytes = if nat_lt (length file.1.0) off then false else cells_show (take len (drop off file.1.0)) bytes

-- the time of a node, 0 where it is no file
abbrev pub node_time : Option Node → ℕ
node_time (Some (File cells links when)) = when
node_time (Some (Dir entries blocks)) = 0
node_time (Some (Link target links)) = 0
node_time None = 0

-- after a read of a file that showed bytes; where the cells don't show them, it leaves the tree
abbrev pub shown_at : FileTree → Option (ℕ × (List Cell × (ℕ × ℕ))) → ℕ → ℕ → List ℕ → FileTree
shown_at tree file off len bytes = if file_shows file off len bytes then with_shown tree file off bytes else tree
