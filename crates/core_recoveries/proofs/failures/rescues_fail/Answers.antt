-- By whose write it is.
use Rattle.core_recoveries.proofs.RescueFailing.{host_rescues_fail, host_writes_fail, rescues_fail}
use Rattle.core_recoveries.proofs.failures.rescues_fail.Goals as goal

pub returns : goal.returns
returns c = record {
  fail = rescues_fail c.ticks_are_events.ensures.off c.leases_last.ensures.end c.writes_stand_once.ensures.sectors c.rescues_are_of_who_holds_the_log.ensures.holder
      c.who_holds_a_log_recovers_it.ensures.taken;
  new = host_rescues_fail c.ticks_are_events.ensures.off c.leases_last.ensures.end c.writes_stand_once.ensures.sectors c.rescues_are_of_who_holds_the_log.ensures.holder
      c.who_holds_a_log_recovers_it.ensures.taken;
  host = host_writes_fail;
}
