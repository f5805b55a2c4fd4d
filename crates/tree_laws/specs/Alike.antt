-- Nodes that are alike but for the cells of files, and cells that are the same but for doubt.
use Rattle.std.specs.Prelude.{◌≡◌, ◌⊎◌, Option, Some, None, List, [], ◌∷◌}
use Rattle.tree_definitions.specs.declared.cells.Cell.{Cell}
use Rattle.tree_definitions.specs.declared.cells.Cell.TheVariants.{Doubtful}
use Rattle.tree_definitions.specs.declared.node.Node.{Node}
use Rattle.tree_definitions.specs.declared.node.Node.TheVariants.{Dir, File, Link}

-- two nodes, or none, by how the cells of two files are alike: files by their cells, all others where they are equal
abbrev pub AlikeBy : (List Cell → List Cell → Type 0) → Option Node → Option Node → Type 0
AlikeBy like (Some (Dir es n)) q = q ≡ Some (Dir es n)
AlikeBy like (Some (File cells links when)) q = (others : List Cell) × (q ≡ Some (File others links when)) × like cells others
AlikeBy like (Some (Link target links)) q = q ≡ Some (Link target links)
AlikeBy like None q = q ≡ None

-- each cell of the first is that of the second, or this one is in doubt
abbrev pub Vaguer : List Cell → List Cell → Type 0
Vaguer [] [] = Unit {0}
Vaguer (x ∷ xs) (y ∷ ys) = ((x ≡ y) ⊎ (y ≡ Doubtful)) × Vaguer xs ys
Vaguer [] (y ∷ ys) = ⊥
Vaguer (x ∷ xs) [] = ⊥
