-- Step by step.
use Rattle.headline_runs.proofs.Along.{runs_stand}
use Rattle.headline_runs.proofs.runs_stand_along.Goals as goal

pub returns : goal.returns
returns c = record { along = runs_stand }
