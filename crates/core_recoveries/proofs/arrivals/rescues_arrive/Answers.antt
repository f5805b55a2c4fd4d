-- By whether its server is dead since.
use Rattle.core_recoveries.proofs.RescueLanding.{rescues_arrive}
use Rattle.core_recoveries.proofs.arrivals.rescues_arrive.Goals as goal

pub returns : goal.returns
returns c = record {
  arrive = rescues_arrive c.ticks_are_events.ensures.off c.leases_last.ensures.end c.writes_stand_once.ensures.sectors c.rescues_are_of_who_holds_the_log.ensures.holder
      c.who_holds_a_log_recovers_it.ensures.taken c.stale_writes_are_late.ensures.late;
}
