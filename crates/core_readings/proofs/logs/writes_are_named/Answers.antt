-- By what the log reads as.
use Rattle.core_readings.proofs.Naming.{writes_are_named}
use Rattle.core_readings.proofs.logs.writes_are_named.Goals as goal

pub returns : goal.returns
returns c = writes_are_named
