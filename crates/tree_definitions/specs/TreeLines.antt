-- The lines of a tree: each directory before its entries, entries in order of their bytes.
use Rattle.std.specs.Prelude.{ℕ, zero, suc, Option, Some, None, List, [], ◌∷◌, ◌++◌, length}
use Rattle.std.specs.List.{flat_map}
use Rattle.frang_base.specs.declared.said.Said.{Said}
use Rattle.frang_base.specs.declared.said.Said.TheVariants as said
use Rattle.tree_definitions.specs.declared.node.Node.{Node}
use Rattle.tree_definitions.specs.declared.node.Node.TheVariants.{Dir, File, Link}
use Rattle.tree_definitions.specs.Tree.{FileTree, node_at}

-- the text of a path, `/` at the root
abbrev pub path_text : List ℕ → List ℕ
path_text [] = 47 ∷ []
path_text (b ∷ text) = b ∷ text

-- a name below a path's text
abbrev pub name_below : List ℕ → List ℕ → List ℕ
name_below text name = text ++ 47 ∷ name

-- a node's own line, and then the lines of its entries
abbrev pub lines_with : List ℕ → Option Node → (List ℕ × ℕ → List Said) → List Said
lines_with text None entry_lines = []
lines_with text (Some (File cells links when)) entry_lines = said.Node (path_text text) 1 (length cells) links ∷ []
lines_with text (Some (Link target links)) entry_lines = said.Node (path_text text) 3 (length target) 0 ∷ []
lines_with text (Some (Dir entries blocks)) entry_lines = said.Node (path_text text) 2 (length entries) 0 ∷ flat_map entry_lines entries

-- the lines from a node on, so many levels deep
abbrev pub lines_from : ℕ → FileTree → List ℕ → ℕ → List Said
lines_from zero tree text birth = []
lines_from (suc depth) tree text birth = lines_with text (node_at tree birth) (λ e. lines_from depth tree (name_below text e.0) e.1)

-- a tree of n nodes has at most n levels
abbrev pub tree_lines : FileTree → List Said
tree_lines tree = lines_from (length tree.nodes) tree [] 0
