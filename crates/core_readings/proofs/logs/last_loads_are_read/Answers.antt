-- By what is read.
use Rattle.core_readings.proofs.LastLoads.{last_loads}
use Rattle.core_readings.proofs.logs.last_loads_are_read.Goals as goal

pub returns : goal.returns
returns c = last_loads c.slots_read_are_the_disks.ensures.recovery
