-- Both ends of a mount.
use Rattle.core_lives.proofs.Unmounting.{closes, unmounts}
use Rattle.core_lives.proofs.lives.leaves_lead_on.Goals as goal

pub returns : goal.returns
returns c = record {
  unmount = unmounts c.good_logs_stay_good.ensures.ends c.good_logs_stay_good.ensures.reads c.stale_writes_are_late.ensures.fresh c.who_holds_a_log_recovers_it.ensures.recovery c.who_holds_a_log_recovers_it.ensures.dead;
  close = closes c.good_logs_stay_good.ensures.ends c.good_logs_stay_good.ensures.reads c.stale_writes_are_late.ensures.fresh c.who_holds_a_log_recovers_it.ensures.recovery c.who_holds_a_log_recovers_it.ensures.dead;
}
