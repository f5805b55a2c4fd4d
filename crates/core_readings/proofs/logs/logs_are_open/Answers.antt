-- By its lease.
use Rattle.core_readings.proofs.Opening.{logs_are_open}
use Rattle.core_readings.proofs.logs.logs_are_open.Goals as goal

pub returns : goal.returns
returns c = logs_are_open
