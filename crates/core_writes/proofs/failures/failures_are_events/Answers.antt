-- Side by side, by which sector is left.
use Rattle.core_writes.proofs.Failing.{failures}
use Rattle.core_writes.proofs.failures.failures_are_events.Goals as goal

pub returns : goal.returns
returns c = record { fail = failures c.every_event.ensures.orderly c.leases_last.ensures.end c.writes_stand_once.ensures.sectors c.ticks_are_events.ensures.off }
