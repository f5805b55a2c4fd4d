-- Event by event.
use Rattle.core_log_writes.proofs.Quiet.{ends_go_on, runs_keep_marks}
use Rattle.core_log_writes.proofs.beside.quiet_events_leave_marks.Goals as goal

pub returns : goal.returns
returns c = record { keep = runs_keep_marks; on = ends_go_on }
