-- By whether the recovery can end.
use Rattle.core_recoveries.proofs.Looking.{looks}
use Rattle.core_recoveries.proofs.reads.looks_are_events.Goals as goal

pub returns : goal.returns
returns c = record { look = looks c.one_recovery_is_under_way.ensures.one }
