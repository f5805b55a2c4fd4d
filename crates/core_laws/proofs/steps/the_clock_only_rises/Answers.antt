-- Step by step.
use Rattle.core_laws.proofs.Keeping.{run_rises}
use Rattle.core_laws.proofs.steps.the_clock_only_rises.Goals as goal

pub returns : goal.returns
returns c = record { rises = run_rises }
