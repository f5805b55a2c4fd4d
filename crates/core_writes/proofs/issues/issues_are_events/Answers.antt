-- Kind by kind of write.
use Rattle.core_writes.proofs.Issuing.{issues}
use Rattle.core_writes.proofs.issues.issues_are_events.Goals as goal

pub returns : goal.returns
returns c = record {
  issue = issues c.every_event.ensures.step c.every_event.ensures.orderly c.one_recovery_is_under_way.ensures.dead c.each_key_stands_once.ensures.order c.leases_last.ensures.end;
}
