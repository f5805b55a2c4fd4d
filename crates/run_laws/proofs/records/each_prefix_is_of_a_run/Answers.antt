-- Step by step.
use Rattle.run_laws.proofs.Passing.{prefixes_are_of_runs}
use Rattle.run_laws.proofs.records.each_prefix_is_of_a_run.Goals as goal

pub returns : goal.returns
returns c = record { prefixes = prefixes_are_of_runs }
