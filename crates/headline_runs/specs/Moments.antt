-- What is asked of a moment of a run from a beginning, so that the headline holds of what was witnessed until there.
use Rattle.std.specs.Prelude.{ℕ, List}
use Rattle.tree_definitions.specs.Transcript.{Faults}
use Rattle.sector_world.specs.World.{World}
use Rattle.core_definitions.specs.Runs.{State as RunMoment, Run, first_state}
use Rattle.core_transcripts.specs.Faults.{TellFaults}
use Rattle.core_world.specs.Events.{first_world}
use Rattle.core_world.specs.Journals.{Journal}
use Rattle.core_order.specs.Worlds.{HaveWorlds}
use Rattle.core_run_ties.specs.Ties.{StandsFurther}
use Rattle.core_runs.specs.Kept.{Further, IsKeptAlong}
use Rattle.opening_laws.specs.FirstDisks.{opened_files, opened_home, opened_logged}
use Rattle.headline_definitions.specs.Beginning.{Beginning}
use Rattle.headline_definitions.specs.Headline.{Headline}
use Rattle.headline_definitions.specs.Laws.{Begins, setting_by}
use Rattle.headline_histories.specs.Closed.{OffLogsHaveTheirRecords}
use Rattle.headline_histories.specs.Moments.{witnessed_to}
use Rattle.headline_histories.specs.Starts.{world_on}

-- the first moment of a run from a beginning
abbrev pub first_moment : Beginning → RunMoment
first_moment b = first_state (setting_by b) b.disk

-- its world, over the disk of the opening, by the naming under which the disk stands for the tree
abbrev pub first_world_of : (b : Beginning) → Begins b → World
first_world_of b begins =
    first_world b.disk (opened_logged b.opening.tree.segments b.disk) (opened_files b.opening.tree.segments b.disk) (opened_home b.opening.tree.segments begins.opening.stands.naming)

-- what else stands beside each moment of that run: that the world began so, and the rest that the step law over runs carries along
abbrev pub FurtherOf : (b : Beginning) → Begins b → Further
FurtherOf b begins = StandsFurther (world_on b.opening b.disk begins.opening)

-- All that the step law over runs has beside the moment; that the logs of servers that are off have the records of their last mount; and a world, with journals, beside each moment of the run until there
pub record StandsAlong (b : Beginning) (s : RunMoment) (run : Run (first_moment b) s) : Type 0 where
  pub begins : Begins b
  pub when : ℕ → ℕ
  pub numbers : List ℕ
  pub world : World
  pub journal : ℕ → Journal
  pub kept : IsKeptAlong (FurtherOf b begins) s world journal when b.opening.tree numbers
  pub off : OffLogsHaveTheirRecords s world
  pub first_journal : ℕ → Journal
  pub worlds : HaveWorlds (first_moment b) s run (first_world_of b begins) first_journal

-- then the whole headline holds of what was witnessed along the run, by faults that tell of each call of it that failed
abbrev pub MomentsKeepTheHeadline : Type 0
MomentsKeepTheHeadline =
    (b : Beginning) (s : RunMoment) (run : Run (first_moment b) s) (faults : Faults) → StandsAlong b s run → TellFaults faults (first_moment b) s run → Headline b faults (witnessed_to b s run)
