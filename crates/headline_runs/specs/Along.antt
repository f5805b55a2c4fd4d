-- That all of it stands at each moment of each run, from what is so at its beginning and at each step.
use Rattle.std.specs.Prelude.{ℕ, List}
use Rattle.tree_definitions.specs.Tree.{FileTree}
use Rattle.sector_world.specs.World.{World}
use Rattle.core_definitions.specs.Runs.{State as RunMoment, Run, Step}
use Rattle.core_world.specs.Journals.{Journal}
use Rattle.core_order.specs.Versions.{JournalsGoOn}
use Rattle.core_run_ties.specs.Ties.{StandsFurther}
use Rattle.core_runs.specs.Journals.{journals_next}
use Rattle.core_runs.specs.Kept.{IsKeptAlong}
use Rattle.core_runs.specs.Steps.{LeadsAlong, StepsAreKept}
use Rattle.headline_definitions.specs.Beginning.{Beginning}
use Rattle.headline_definitions.specs.Laws.{Begins}
use Rattle.headline_histories.specs.Closed.{OffLogsHaveTheirRecords}
use Rattle.headline_runs.specs.Moments.{FurtherOf, StandsAlong, first_moment, first_world_of}

-- ---- what is asked

-- the step law over runs, with what else stands beside a moment, whatever the world began with
abbrev pub EachStepIsKept : Type 0
EachStepIsKept = (first : World) → StepsAreKept (StandsFurther first)

-- the journals that it names go on as the order of writes asks
abbrev pub NamedJournalsGoOn : Type 0
NamedJournalsGoOn =
    (first : World) (s v : RunMoment) (w : World) (journal : ℕ → Journal) (when : ℕ → ℕ) (first_tree : FileTree) (numbers : List ℕ) (step : Step s v) →
    (kept : IsKeptAlong (StandsFurther first) s w journal when first_tree numbers) → (x : LeadsAlong s v w journal when first_tree numbers (StandsFurther first) kept step) →
    JournalsGoOn s v x.leads.world journal (journals_next s v w step journal)

-- and the logs of servers that are off keep their records
abbrev pub OffRecordsGoOn : Type 0
OffRecordsGoOn =
    (first : World) (s v : RunMoment) (w : World) (journal : ℕ → Journal) (when : ℕ → ℕ) (first_tree : FileTree) (numbers : List ℕ) (step : Step s v) →
    (kept : IsKeptAlong (StandsFurther first) s w journal when first_tree numbers) → (x : LeadsAlong s v w journal when first_tree numbers (StandsFurther first) kept step) →
    OffLogsHaveTheirRecords s w → OffLogsHaveTheirRecords v x.leads.world

-- ---- at first

-- times, numbers and journals with which all of it stands beside the first moment
pub record IsKeptFirst (b : Beginning) (begins : Begins b) : Type 0 where
  pub when : ℕ → ℕ
  pub numbers : List ℕ
  pub journal : ℕ → Journal
  pub kept : IsKeptAlong (FurtherOf b begins) (first_moment b) (first_world_of b begins) journal when b.opening.tree numbers

-- each beginning has them
abbrev pub BeginningsAreKept : Type 0
BeginningsAreKept = (b : Beginning) (begins : Begins b) → IsKeptFirst b begins

-- ---- along runs

-- then all of it stands at each moment of each run
abbrev pub RunsStandAlong : Type 0
RunsStandAlong =
    EachStepIsKept → NamedJournalsGoOn → OffRecordsGoOn → BeginningsAreKept → (b : Beginning) (s : RunMoment) (run : Run (first_moment b) s) → Begins b → StandsAlong b s run
