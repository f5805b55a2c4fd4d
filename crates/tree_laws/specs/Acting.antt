-- What operations do to the shape of a tree: what they do to the tree, but for the bytes of files.
use Rattle.std.specs.Prelude.{◌≡◌, ℕ, Bool, List, map}
use Rattle.frang_base.specs.declared.op.Op.{Op}
use Rattle.tree_definitions.specs.declared.cells.Cell.TheVariants.{Doubtful}
use Rattle.tree_definitions.specs.Tree.{FileTree}
use Rattle.tree_definitions.specs.Place.{place}
use Rattle.tree_definitions.specs.Apply.{Answer, Plain, Shows, Applied, apply}
use Rattle.tree_definitions.specs.Resolve.{resolve}
use Rattle.tree_definitions.specs.Perform.{perform, resolved}
use Rattle.tree_definitions.specs.Touched.{shape_of}

-- an answer without the bytes of files: of what a read shows the number of cells is left, each of them in doubt
abbrev pub answer_shape : Answer → Answer
answer_shape (Plain reply) = Plain reply
answer_shape (Shows cells) = Shows (map (λ c. Doubtful) cells)

-- what was done to the shape of a tree is what was done to the tree, bytes aside
pub record GoesByShape (on_tree on_shape : Applied) : Type 0 where
  pub answer : on_shape.answer ≡ answer_shape on_tree.answer
  pub tree : shape_of on_shape.tree ≡ shape_of on_tree.tree

-- an operation goes by the shape, whatever the tree is
abbrev pub ApplyGoesByShape : Type 0
ApplyGoesByShape = (tree : FileTree) (o : Op) (birth when m : ℕ) → GoesByShape (apply tree o birth when m) (apply (shape_of tree) o birth when m)

-- and so does one whose paths lead through links
abbrev pub PerformGoesByShape : Type 0
PerformGoesByShape = (tree : FileTree) (o : Op) (birth when m : ℕ) → GoesByShape (perform tree o birth when m) (perform (shape_of tree) o birth when m)

-- the names of a path lead to the same place
abbrev pub PlacesGoByShape : Type 0
PlacesGoByShape = (tree : FileTree) (path : List (List ℕ)) → place (shape_of tree) path ≡ place tree path

-- a walk through links goes the same way
abbrev pub WalksGoByShape : Type 0
WalksGoByShape = (tree : FileTree) (last : Bool) (path : List (List ℕ)) → resolve (shape_of tree) last path ≡ resolve tree last path

-- an operation comes to the same once its links are followed
abbrev pub ResolvedGoesByShape : Type 0
ResolvedGoesByShape = (tree : FileTree) (o : Op) → resolved (shape_of tree) o ≡ resolved tree o
