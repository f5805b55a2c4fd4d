-- By who takes the log.
use Rattle.core_recoveries.proofs.Beginning.{begins}
use Rattle.core_recoveries.proofs.begins.begins_are_events.Goals as goal

pub returns : goal.returns
returns c = record { begin = begins c.ticks_are_events.ensures.off }
