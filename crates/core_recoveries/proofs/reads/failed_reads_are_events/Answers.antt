-- By whose call it is.
use Rattle.core_recoveries.proofs.Broken.{failed_loads, failed_looks}
use Rattle.core_recoveries.proofs.reads.failed_reads_are_events.Goals as goal

pub returns : goal.returns
returns c = record { load = failed_loads; look = failed_looks }
