-- Side by side, by whether its server lives.
use Rattle.core_log_writes.proofs.Arriving.{left_logs_grow, live_logs_grow}
use Rattle.core_log_writes.proofs.arrivals.log_writes_reach_the_disk.Goals as goal

pub returns : goal.returns
returns c = record {
  live = live_logs_grow c.leases_last.ensures.end c.writes_stand_once.ensures.sectors c.stale_writes_are_late.ensures.within;
  left = left_logs_grow c.leases_last.ensures.end c.writes_stand_once.ensures.sectors c.stale_writes_are_late.ensures.within;
}
