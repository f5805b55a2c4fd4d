-- Side by side, by which sector is left.
use Rattle.core_log_writes.proofs.Arriving.{new_logs_fail, old_logs_fail}
use Rattle.core_log_writes.proofs.failures.log_writes_fail.Goals as goal

pub returns : goal.returns
returns c = record {
  old = old_logs_fail c.leases_last.ensures.end c.writes_stand_once.ensures.sectors c.stale_writes_are_late.ensures.within;
  new = new_logs_fail c.leases_last.ensures.end c.writes_stand_once.ensures.sectors c.stale_writes_are_late.ensures.within;
}
