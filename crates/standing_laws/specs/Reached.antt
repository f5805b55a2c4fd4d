-- Each node is reached from the root, and stays so.
use Rattle.std.specs.Prelude.{ℕ, List, ◌∷◌}
use Rattle.frang_base.specs.declared.op.Op.{Op}
use Rattle.tree_definitions.specs.Tree.{FileTree, fresh, node_at}
use Rattle.tree_definitions.specs.Apply.{apply}
use Rattle.tree_definitions.specs.History.{Settled, after, after_all}
use Rattle.tree_definitions.specs.WellFormed.{IsWellFormed, IsNew, AreNew}
use Rattle.disk_definitions.specs.Standing.{IsReached}

-- an operation at a new birth leaves each node of a well-formed tree reached
abbrev pub ApplyKeepsReached : Type 0
ApplyKeepsReached =
    (tree : FileTree) (operation : Op) (birth when ever_directories : ℕ) → IsWellFormed tree → IsReached (node_at tree) → IsNew tree birth → IsReached (node_at (apply tree operation birth when ever_directories).tree)

-- each node of the fresh tree is reached
abbrev pub FreshIsReached : Type 0
FreshIsReached = (segments : ℕ) → IsReached (node_at (fresh segments))

-- an entry with a new number leaves each node reached, and so does doubt
abbrev pub StepKeepsReached : Type 0
StepKeepsReached =
    (tree : FileTree) (step : Settled) (rest : List Settled) → IsWellFormed tree → IsReached (node_at tree) → AreNew tree (step ∷ rest) → IsReached (node_at (after tree step))

-- and so do the steps of a list with new numbers
abbrev pub StepsKeepReached : Type 0
StepsKeepReached =
    (tree : FileTree) (list : List Settled) → IsWellFormed tree → IsReached (node_at tree) → AreNew tree list → IsReached (node_at (after_all tree list))
