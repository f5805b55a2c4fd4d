-- By the tie of writes in flight, and of recoveries.
use Rattle.core_recoveries.proofs.RescueLanding.{of_worlds}
use Rattle.core_recoveries.proofs.arrivals.rescues_are_of_worlds.Goals as goal

pub returns : goal.returns
returns c = record {
  world = of_worlds c.ticks_are_events.ensures.off c.leases_last.ensures.end c.writes_stand_once.ensures.sectors c.rescues_are_of_who_holds_the_log.ensures.holder
      c.who_holds_a_log_recovers_it.ensures.taken;
}
