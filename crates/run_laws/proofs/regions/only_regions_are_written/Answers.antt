-- Step by step.
use Rattle.run_laws.proofs.Elsewhere.{others_stay, puts_stay}
use Rattle.run_laws.proofs.Placing.{logs_stay, writes_stay}
use Rattle.run_laws.proofs.regions.only_regions_are_written.Goals as goal

pub returns : goal.returns
returns c = record { logs = logs_stay; flights = writes_stay; puts = puts_stay; others = others_stay }
