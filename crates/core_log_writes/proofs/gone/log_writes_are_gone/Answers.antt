-- Side by side.
use Rattle.core_log_writes.proofs.Going.{late_logs, lost_logs}
use Rattle.core_log_writes.proofs.gone.log_writes_are_gone.Goals as goal

pub returns : goal.returns
returns c = record { late = late_logs c.writes_stand_once.ensures.sectors; lost = lost_logs c.writes_stand_once.ensures.sectors }
