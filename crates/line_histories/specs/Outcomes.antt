-- What an outcome is of: a finished plan of an operation that may be asked; and what it makes of bytes, whatever is read.
use Rattle.std.specs.Prelude.{ℕ, ◌≡◌, ◌↔◌, true, Option, Some, None, List, []}
use Rattle.frang_base.specs.declared.op.Op.{Op}
use Rattle.sector_bytes.specs.Blocks.{Block}
use Rattle.sector_bytes.specs.Sectors.{Sectors}
use Rattle.sector_world.specs.Histories.{Fill}
use Rattle.sector_world.specs.Histories.Fill.{Written, Freed}
use Rattle.sector_world.specs.Plans.{Outcome, made_of}
use Rattle.disk_definitions.specs.Allowed.{IsAllowed}
use Rattle.disk_definitions.specs.Ask.{Ask, run, looks}
use Rattle.disk_definitions.specs.Plans.{Plan, Finish}
use Rattle.disk_definitions.specs.Plans.Plan.{Finishes}
use Rattle.plan_laws.specs.Plans.{Planner}
use Rattle.line_laws.specs.Laws.{HasPath}
use Rattle.line_histories.specs.LinePlans.{may_be_planned, hand_on, store_showing, store_on, fill_by, outcome_by, are_segments, sector_plan_by}
use Rattle.line_histories.specs.Planners.{IsSoundPlanner}

-- the test of what may be planned passes exactly what may be asked of a plan and has a path
abbrev pub TestSaysWhatIsAllowed : Type 0
TestSaysWhatIsAllowed = (operation : Op) → (may_be_planned operation ≡ true) ↔ (IsAllowed operation × HasPath operation)

-- the outcome of this program, which is finished over the sectors
pub record IsOfAFinish (segments : ℕ) (disk : Sectors) (hint : List ℕ) (program : Ask Plan) (o : Outcome) : Type 0 where
  pub finish : Finish
  pub is : run program (store_on segments disk) ≡ Finishes finish
  pub outcome : o ≡ outcome_by segments disk hint (λ shown. run program (store_showing shown segments disk)) (looks program (store_on segments disk)) finish

-- and the operation may be asked and has a path, and the hint is of segments of the disk
pub record IsOfAPlan (planner : Planner) (segments : ℕ) (when : ℕ → ℕ) (hint : List ℕ) (n : ℕ) (operation : Op) (disk : Sectors) (o : Outcome) : Type 0 where
  pub allowed : IsAllowed operation
  pub path : HasPath operation
  pub known : are_segments segments hint ≡ true
  pub comes : IsOfAFinish segments disk hint (planner (hand_on segments disk hint) n (when n) operation) o

abbrev pub OutcomesAreOfPlans : Type 0
OutcomesAreOfPlans =
    (planner : Planner) (segments : ℕ) (when : ℕ → ℕ) (hint : List ℕ) (n : ℕ) (operation : Op) (disk : Sectors) (o : Outcome) →
    sector_plan_by planner segments when hint n operation disk ≡ Some o → IsOfAPlan planner segments when hint n operation disk o

-- a write, a freeing or neither, without the bytes
abbrev pub fill_shape : Option Fill → Option Fill
fill_shape None = None
fill_shape (Some (Written block)) = Some (Written [])
fill_shape (Some Freed) = Some Freed

-- whatever is read, a sound program writes, frees or leaves the sectors of bytes that its edits write, free or leave
abbrev pub MakesAreOfEdits : Type 0
MakesAreOfEdits =
    (planner : Planner) → IsSoundPlanner planner → (segments : ℕ) (when : ℕ → ℕ) (hint : List ℕ) (n : ℕ) (operation : Op) (disk : Sectors) (o : Outcome)
    (of : IsOfAPlan planner segments when hint n operation disk o) (number : ℕ) (shown : Option Block) →
    fill_shape (made_of (o.makes number) shown) ≡ fill_shape (fill_by of.comes.finish.edits number)
