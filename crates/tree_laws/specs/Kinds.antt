-- A birth tells the kind of its node, throughout a history.
use Rattle.std.specs.Prelude.{◌≡◌, ℕ, ◌==◌, if◌then◌else◌, Option, Some, None, List, [], ◌∷◌}
use Rattle.frang_base.specs.declared.op.Op.{Op}
use Rattle.frang_base.specs.declared.op.Op.TheVariants as op
use Rattle.tree_definitions.specs.declared.node.Node.{Node}
use Rattle.tree_definitions.specs.Tree.{FileTree, node_at}
use Rattle.tree_definitions.specs.Apply.{apply}
use Rattle.tree_definitions.specs.History.{Settled, Stays, InDoubt, after_all}
use Rattle.tree_definitions.specs.WellFormed.{IsWellFormed, IsNew, AreNew}
use Rattle.tree_laws.specs.Touching.{Kind, OfDirectory, OfFile, OfLink, kind_of, HasKinds, SameKinds}

-- the kind of the node that an operation may make at a birth is the one that the birth tells
abbrev pub MakesToldKind : (ℕ → Kind) → Op → ℕ → Type 0
MakesToldKind kinds (op.Create path) birth = OfFile ≡ kinds birth
MakesToldKind kinds (op.Mkdir path) birth = OfDirectory ≡ kinds birth
MakesToldKind kinds (op.Symlink path target) birth = OfLink ≡ kinds birth
MakesToldKind kinds _ birth = Unit {0}

-- so is that of each entry of a list
abbrev pub MakeToldKinds : (ℕ → Kind) → List Settled → Type 0
MakeToldKinds kinds [] = Unit {0}
MakeToldKinds kinds (Stays e ∷ list) = MakesToldKind kinds e.op e.number.0 × MakeToldKinds kinds list
MakeToldKinds kinds (InDoubt runs ∷ list) = MakeToldKinds kinds list

-- the kind of what an operation may make; where it makes nothing, any
abbrev pub kind_made : Op → Kind
kind_made (op.Mkdir path) = OfDirectory
kind_made (op.Symlink path target) = OfLink
kind_made _ = OfFile

-- the kind that the first entry with this number makes
abbrev pub kind_by : List Settled → ℕ → Kind
kind_by [] birth = OfFile
kind_by (Stays e ∷ list) birth = if e.number.0 == birth then kind_made e.op else kind_by list birth
kind_by (InDoubt runs ∷ list) birth = kind_by list birth

-- the kind of a node, or this one where there is none
abbrev pub kind_or : Kind → Option Node → Kind
kind_or kind (Some node) = kind_of node
kind_or kind None = kind

-- the kinds of a tree's nodes, and of those that a list makes
abbrev pub kinds_along : FileTree → List Settled → ℕ → Kind
kinds_along tree list birth = kind_or (kind_by list birth) (node_at tree birth)

-- trees whose births tell the same kinds have nodes of the same kinds
abbrev pub ToldKindsAgree : Type 0
ToldKindsAgree = (kinds : ℕ → Kind) (one two : FileTree) → HasKinds kinds one → HasKinds kinds two → SameKinds one two

-- an operation that makes the told kind leaves the kinds told
abbrev pub ApplyKeepsKinds : Type 0
ApplyKeepsKinds = (kinds : ℕ → Kind) (tree : FileTree) (o : Op) (birth when m : ℕ) → IsWellFormed tree → IsNew tree birth → HasKinds kinds tree → MakesToldKind kinds o birth → HasKinds kinds (apply tree o birth when m).tree

-- so does a list of steps
abbrev pub StepsKeepKinds : Type 0
StepsKeepKinds = (kinds : ℕ → Kind) (tree : FileTree) (list : List Settled) → IsWellFormed tree → AreNew tree list → HasKinds kinds tree → MakeToldKinds kinds list → HasKinds kinds (after_all tree list)

-- kinds can be told along every list with new numbers
abbrev pub KindsCanBeTold : Type 0
KindsCanBeTold = (tree : FileTree) (list : List Settled) → AreNew tree list → HasKinds (kinds_along tree list) tree × MakeToldKinds (kinds_along tree list) list
