-- Where operations come to once links are followed.
use Rattle.std.specs.Prelude.{◌≡◌, ℕ, Bool, true, ◌==◌, Some, List, is_some}
use Rattle.std.specs.List.{list_any}
use Rattle.frang_base.specs.declared.op.Op.{Op}
use Rattle.tree_definitions.specs.Tree.{FileTree, node_at}
use Rattle.tree_definitions.specs.Resolve.{At, resolve}
use Rattle.tree_definitions.specs.Perform.{resolved}
use Rattle.tree_definitions.specs.WellFormed.{IsWalkable}
use Rattle.tree_laws.specs.Touching.{SameKinds}

-- a walk finds a node that is there
abbrev pub WalksFindWhatIsThere : Type 0
WalksFindWhatIsThere = (tree : FileTree) (last : Bool) (path way : List (List ℕ)) (birth : ℕ) → IsWalkable tree → (resolve tree last path).end ≡ At way (Some birth) → is_some (node_at tree birth) ≡ true

-- the trees agree on each of these nodes
abbrev pub AgreeOnTrail : FileTree → FileTree → List ℕ → Type 0
AgreeOnTrail one two trail = (birth : ℕ) → list_any (λ b. b == birth) trail ≡ true → node_at one birth ≡ node_at two birth

-- an operation comes to the same in another tree that agrees with the first on what its walks went through there
abbrev pub WalksGoByTheirTrail : Type 0
WalksGoByTheirTrail = (one two : FileTree) (o : Op) → IsWalkable one → IsWalkable two → SameKinds one two → AgreeOnTrail one two (resolved one o).trail → resolved two o ≡ resolved one o
