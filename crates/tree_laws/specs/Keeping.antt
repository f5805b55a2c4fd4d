-- What the shape of a tree has of the tree: all but the bytes of files.
use Rattle.std.specs.Prelude.{◌≡◌, ℕ}
use Rattle.std.specs.Option.{option_map}
use Rattle.frang_base.specs.declared.reply.Reply.{Reply}
use Rattle.tree_definitions.specs.Tree.{FileTree, node_at}
use Rattle.tree_definitions.specs.Perform.{Step}
use Rattle.tree_definitions.specs.Touched.{node_shape, shape_of, visited}
use Rattle.tree_definitions.specs.WellFormed.{IsWellFormed}
use Rattle.tree_laws.specs.Touching.{Kind, HasKinds, SameKinds}
use Rattle.tree_laws.specs.Rooms.{SameRoom}

-- a shape is its own shape
abbrev pub ShapesAreTheirOwn : Type 0
ShapesAreTheirOwn = (tree : FileTree) → shape_of (shape_of tree) ≡ shape_of tree

-- the shape of a well-formed tree is well formed
abbrev pub ShapesAreWellFormed : Type 0
ShapesAreWellFormed = (tree : FileTree) → IsWellFormed tree → IsWellFormed (shape_of tree)

-- each node stays at its birth, without its bytes
abbrev pub NodesStay : Type 0
NodesStay = (tree : FileTree) (birth : ℕ) → node_at (shape_of tree) birth ≡ option_map node_shape (node_at tree birth)

-- nodes of one birth are of one kind, and a birth tells the same kind
abbrev pub KindsStay : Type 0
KindsStay = (tree : FileTree) → SameKinds tree (shape_of tree)

abbrev pub ToldKindsStay : Type 0
ToldKindsStay = (kinds : ℕ → Kind) (tree : FileTree) → HasKinds kinds tree → HasKinds kinds (shape_of tree)

-- an operation over paths without links looks its names up in the same directories, and reaches the same nodes by its reply
abbrev pub VisitedStay : Type 0
VisitedStay = (tree : FileTree) (step : Step) (reply : Reply) → visited (shape_of tree) step reply ≡ visited tree step reply

-- the shape takes the same of the disk
abbrev pub RoomStays : Type 0
RoomStays = (tree : FileTree) → SameRoom (shape_of tree) tree
