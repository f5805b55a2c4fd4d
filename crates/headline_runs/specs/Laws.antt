-- The headline over runs, from what is asked; and that it holds at every prefix where it does at the end of each run.
use Rattle.std.specs.Prelude.{◌≡◌, ℕ, take}
use Rattle.tree_definitions.specs.Transcript.{Faults}
use Rattle.core_definitions.specs.Runs.{State as RunMoment, Run, Stays}
use Rattle.core_transcripts.specs.Faults.{TellFaults}
use Rattle.headline_definitions.specs.Beginning.{Beginning}
use Rattle.headline_definitions.specs.Headline.{Headline}
use Rattle.headline_definitions.specs.Laws.{Begins, RunsKeepTheHeadline}
use Rattle.headline_definitions.specs.Runs.{witnessed_in}
use Rattle.headline_histories.specs.Moments.{witnessed_to}
use Rattle.headline_runs.specs.Along.{EachStepIsKept, NamedJournalsGoOn, OffRecordsGoOn}
use Rattle.headline_runs.specs.Moments.{first_moment}

-- a run comes by a moment before which the first so many of what it witnesses were witnessed, or all; and faults that tell of each call that fails in the run tell of each that failed until there
pub record RunsThroughWithFaults (s w : RunMoment) (run : Run s w) (faults : Faults) (k : ℕ) : Type 0 where
  pub moment : RunMoment
  pub before : Run s moment
  pub witnessed : witnessed_in s moment before ≡ take k (witnessed_in s w run)
  pub tell : TellFaults faults s moment before

abbrev pub EachPrefixHasItsFaults : Type 0
EachPrefixHasItsFaults = (s w : RunMoment) (run : Run s w) (faults : Faults) (k : ℕ) → TellFaults faults s w run → RunsThroughWithFaults s w run faults k

-- every run keeps the headline at every prefix, where the step law over runs is so, and these two of its steps
abbrev pub RunsKeepTheHeadlineBySteps : Type 0
RunsKeepTheHeadlineBySteps = EachStepIsKept → NamedJournalsGoOn → OffRecordsGoOn → RunsKeepTheHeadline

-- of the first moment none of these is asked: the headline holds there of what was witnessed, which is nothing
abbrev pub BeginningsKeepTheHeadline : Type 0
BeginningsKeepTheHeadline =
    (b : Beginning) (faults : Faults) → Begins b → TellFaults faults (first_moment b) (first_moment b) Stays → Headline b faults (witnessed_to b (first_moment b) Stays)
