-- Step by step.
use Rattle.core_runs.specs.Kept.{Related}
use Rattle.core_runs.proofs.Keeping.{runs_along}
use Rattle.core_runs.proofs.along.runs_are_kept.Goals as goal

pub returns : goal.returns
returns g c = record {
  runs = λ moment_of world_of journal_of. runs_along (Related moment_of world_of journal_of);
}
