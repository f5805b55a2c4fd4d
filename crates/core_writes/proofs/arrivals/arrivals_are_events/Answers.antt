-- Side by side, by whether its server is dead since.
use Rattle.core_writes.proofs.Arriving.{arrivals}
use Rattle.core_writes.proofs.arrivals.arrivals_are_events.Goals as goal

pub returns : goal.returns
returns c = record { arrive = arrivals c.every_event.ensures.orderly c.leases_last.ensures.end c.writes_stand_once.ensures.sectors c.stale_writes_are_late.ensures.late }
