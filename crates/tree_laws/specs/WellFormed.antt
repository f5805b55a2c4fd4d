-- What operations and entries leave of a well-formed tree, and what is found of a node that was put or taken.
use Rattle.std.specs.Prelude.{◌≡◌, ◌≢◌, ℕ, Some, None, List, ◌∷◌}
use Rattle.frang_base.specs.declared.op.Op.{Op}
use Rattle.tree_definitions.specs.declared.history.Entry.{Entry}
use Rattle.tree_definitions.specs.declared.node.Node.{Node}
use Rattle.tree_definitions.specs.Tree.{FileTree, fresh, node_at, with_node, without_node}
use Rattle.tree_definitions.specs.Apply.{apply}
use Rattle.tree_definitions.specs.Perform.{perform}
use Rattle.tree_definitions.specs.History.{Settled, after, after_all, tree_after}
use Rattle.tree_definitions.specs.WellFormed.{put, BirthsAscend, IsWellFormed, IsWalkable, IsNew, AreNew}

-- a node is found where it was put, and every other stays
abbrev pub FindsWhatWasPut : Type 0
FindsWhatWasPut = (tree : FileTree) (birth : ℕ) (node : Node) (b : ℕ) → node_at (with_node tree birth node) b ≡ put (node_at tree) birth (Some node) b

-- a node isn't found where it was taken away, and every other stays
abbrev pub MissesWhatWasTaken : Type 0
MissesWhatWasTaken = (tree : FileTree) (birth b : ℕ) → BirthsAscend tree → node_at (without_node tree birth) b ≡ put (node_at tree) birth None b

-- births stay in order, whatever is applied, at whatever birth
abbrev pub ApplyKeepsOrder : Type 0
ApplyKeepsOrder = (tree : FileTree) (o : Op) (birth when m : ℕ) → BirthsAscend tree → BirthsAscend (apply tree o birth when m).tree

-- and whatever list of steps follows, legal or not
abbrev pub StepsKeepOrder : Type 0
StepsKeepOrder = (tree : FileTree) (list : List Settled) → BirthsAscend tree → BirthsAscend (after_all tree list)

-- the fresh tree is well formed
abbrev pub FreshIsWellFormed : Type 0
FreshIsWellFormed = (segments : ℕ) → IsWellFormed (fresh segments)

-- an operation at a new birth leaves a well-formed tree so
abbrev pub ApplyKeepsWellFormed : Type 0
ApplyKeepsWellFormed = (tree : FileTree) (op : Op) (birth when m : ℕ) → IsWellFormed tree → IsNew tree birth → IsWellFormed (apply tree op birth when m).tree

-- and so does one whose paths lead through links
abbrev pub PerformKeepsWellFormed : Type 0
PerformKeepsWellFormed = (tree : FileTree) (op : Op) (birth when m : ℕ) → IsWellFormed tree → IsNew tree birth → IsWellFormed (perform tree op birth when m).tree

-- the steps of a list with new numbers leave a well-formed tree so
abbrev pub StepsKeepWellFormed : Type 0
StepsKeepWellFormed = (tree : FileTree) (list : List Settled) → IsWellFormed tree → AreNew tree list → IsWellFormed (after_all tree list)

-- an entry with a new number leaves a well-formed tree so, and so does doubt
abbrev pub StepKeepsWellFormed : Type 0
StepKeepsWellFormed = (tree : FileTree) (s : Settled) (rest : List Settled) → IsWellFormed tree → AreNew tree (s ∷ rest) → IsWellFormed (after tree s)

-- after a step the numbers of the later entries are new still
abbrev pub LaterNumbersStayNew : Type 0
LaterNumbersStayNew = (tree : FileTree) (s : Settled) (rest : List Settled) → IsWellFormed tree → AreNew tree (s ∷ rest) → AreNew (after tree s) rest

-- an entry makes a node at its own number alone
abbrev pub NodesComeByNumbers : Type 0
NodesComeByNumbers = (tree : FileTree) (e : Entry) (birth : ℕ) → IsWellFormed tree → IsNew tree e.number.0 → IsNew tree birth → birth ≢ e.number.0 → IsNew (tree_after tree e) birth

-- a well-formed tree has what a walk needs
abbrev pub WellFormedIsWalkable : Type 0
WellFormedIsWalkable = (tree : FileTree) → IsWellFormed tree → IsWalkable tree
