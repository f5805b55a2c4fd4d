-- The operations of a world's history are those of lines that were answered, so that the number of a line under way is new to it.
use Rattle.std.specs.Prelude.{ℕ, ◌≡◌, ◌≢◌, true, List, Some}
use Rattle.tree_definitions.specs.Tree.{FileTree}
use Rattle.sector_world.specs.Histories.{Commit, Each, settled}
use Rattle.sector_world.specs.World.{World}
use Rattle.core_definitions.specs.Lines.{Under}
use Rattle.core_definitions.specs.Runs.{State as RunMoment}
use Rattle.core_commits.specs.Finished.{number_in}
use Rattle.core_world.specs.Steps.{IsReached}
use Rattle.core_histories.specs.Tellings.{IsTold}

-- the operation has the number of a line that is answered
pub record IsOfAnAnswer (s : RunMoment) (c : Commit) : Type 0 where
  pub line : ℕ
  pub number : c.op ≡ number_in s.core.setting line
  pub answered : s.core.answered line ≡ true

-- so it is of each operation that has settled
abbrev pub OperationsAreOfAnswers : Type 0
OperationsAreOfAnswers =
    (s : RunMoment) (w : World) (when : ℕ → ℕ) (first_tree : FileTree) (numbers : List ℕ) → IsReached s → IsTold when first_tree numbers s w → Each (IsOfAnAnswer s) (settled w.history)

-- and none of them has the number of a line under way, which isn't answered
abbrev pub LinesUnderWayAreNew : Type 0
LinesUnderWayAreNew =
    (s : RunMoment) (w : World) (when : ℕ → ℕ) (first_tree : FileTree) (numbers : List ℕ) (a : ℕ) (under : Under) → IsReached s → IsTold when first_tree numbers s w →
    (s.core.servers a).under ≡ Some under → Each (λ c. c.op ≢ number_in s.core.setting under.line.number) (settled w.history)
