-- The locks are those of a table after calls, step by step.
use Rattle.core_laws.proofs.Keeping.{locks_of_run}
use Rattle.core_laws.proofs.steps.holders_stay_compatible.Goals as goal

pub returns : goal.returns
returns c = record { compatible = λ setting disk s run. (locks_of_run setting disk s run).compatible }
