-- Step by step: all that stands beside a moment, and the worlds until there.
use Rattle.std.proofs.Common.{ℕ, List}
use Rattle.std.proofs.lemmas.Bool.{false≢true}
use Rattle.tree_definitions.specs.Tree.{FileTree}
use Rattle.sector_world.specs.World.{World}
use Rattle.core_definitions.specs.Runs.{State as RunMoment, Run, Stays, Goes}
use Rattle.core_world.specs.Journals.{Journal}
use Rattle.core_order.specs.Worlds.{HaveWorlds, StandsBeside}
use Rattle.core_run_ties.specs.Ties.{StandsFurther}
use Rattle.core_runs.specs.Journals.{journals_next}
use Rattle.core_runs.specs.Kept.{IsKeptAlong}
use Rattle.core_runs.specs.Steps.{LeadsAlong}
use Rattle.headline_histories.specs.Closed.{OffLogsHaveTheirRecords}
use Rattle.headline_histories.specs.Starts.{world_on}
use Rattle.headline_definitions.specs.Beginning.{Beginning}
use Rattle.headline_definitions.specs.Laws.{Begins}
use Rattle.headline_runs.specs.Along.{BeginningsAreKept, EachStepIsKept, NamedJournalsGoOn, OffRecordsGoOn, RunsStandAlong}
use Rattle.headline_runs.specs.Laws.{BeginningsKeepTheHeadline}
use Rattle.headline_runs.specs.Moments.{MomentsKeepTheHeadline, StandsAlong, first_moment, first_world_of}

-- what the order of writes asks of a moment
worlds_beside : (first : World) (s : RunMoment) (w : World) (journal : ℕ → Journal) (when : ℕ → ℕ) (tree : FileTree) (numbers : List ℕ) → IsKeptAlong (StandsFurther first) s w journal when tree numbers →
    StandsBeside s w journal
worlds_beside first s w journal when tree numbers kept = record {
  is = kept.beside.run.world;
  good = kept.beside.run.good;
  sixteen = kept.beside.sixteen;
  logs = kept.logs.logs;
  sealed = kept.logs.sealed;
}

-- the worlds of a run, and all of it at its end
pub record StandsAtEnd (first : World) (s v : RunMoment) (run : Run s v) (w : World) (journal : ℕ → Journal) (when : ℕ → ℕ) (tree : FileTree) (numbers : List ℕ) : Type 0 where
  pub worlds : HaveWorlds s v run w journal
  pub world : World
  pub last : ℕ → Journal
  pub kept : IsKeptAlong (StandsFurther first) v world last when tree numbers
  pub off : OffLogsHaveTheirRecords v world

module _ (steps : EachStepIsKept) (journals : NamedJournalsGoOn) (records : OffRecordsGoOn) (first : World) (when : ℕ → ℕ) (tree : FileTree) (numbers : List ℕ) where
  pub stands_along : (s v : RunMoment) (run : Run s v) (w : World) (journal : ℕ → Journal) → IsKeptAlong (StandsFurther first) s w journal when tree numbers → OffLogsHaveTheirRecords s w →
      StandsAtEnd first s v run w journal when tree numbers
  stands_along s v Stays w journal kept off = record { worlds = worlds_beside first s w journal when tree numbers kept; world = w; last = journal; kept = kept; off = off }
  stands_along s u (Goes {v = v} step run) w journal kept off =
      let x : LeadsAlong s v w journal when tree numbers (StandsFurther first) kept step = steps first s v w journal when tree numbers step kept in
      let rest : StandsAtEnd first v u run x.leads.world (journals_next s v w step journal) when tree numbers =
      stands_along v u run x.leads.world (journals_next s v w step journal) x.all (records first s v w journal when tree numbers step kept x off) in
      record {
        worlds = (worlds_beside first s w journal when tree numbers kept, journals_next s v w step journal, x.leads, journals first s v w journal when tree numbers step kept x, rest.worlds);
        world = rest.world;
        last = rest.last;
        kept = rest.kept;
        off = rest.off;
      }

pub runs_stand : RunsStandAlong
runs_stand steps journals records at_first b s run begins =
    let x = at_first b begins in
    let end : StandsAtEnd (world_on b.opening b.disk begins.opening) (first_moment b) s run (first_world_of b begins) x.journal x.when b.opening.tree x.numbers =
    stands_along steps journals records (world_on b.opening b.disk begins.opening) x.when b.opening.tree x.numbers (first_moment b) s run (first_world_of b begins) x.journal x.kept
    (λ server is off mounted. absurd (false≢true mounted)) in
    record {
      begins = begins;
      when = x.when;
      numbers = x.numbers;
      world = end.world;
      journal = end.last;
      kept = end.kept;
      off = end.off;
      first_journal = x.journal;
      worlds = end.worlds;
    }

-- at the first moment it does, whatever steps keep
pub first_stands : BeginningsAreKept → (b : Beginning) → Begins b → StandsAlong b (first_moment b) Stays
first_stands at_first b begins =
    let x = at_first b begins in
    record {
      begins = begins;
      when = x.when;
      numbers = x.numbers;
      world = first_world_of b begins;
      journal = x.journal;
      kept = x.kept;
      off = λ server is off mounted. absurd (false≢true mounted);
      first_journal = x.journal;
      worlds = worlds_beside (world_on b.opening b.disk begins.opening) (first_moment b) (first_world_of b begins) x.journal x.when b.opening.tree x.numbers x.kept;
    }

pub first_headline : BeginningsAreKept → MomentsKeepTheHeadline → BeginningsKeepTheHeadline
first_headline at_first moments b faults begins tell = moments b (first_moment b) Stays faults (first_stands at_first b begins) tell
