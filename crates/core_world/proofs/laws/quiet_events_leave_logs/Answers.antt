-- Event by event.
use Rattle.core_world.proofs.Quiet.{quiet_both, quiet_leaves}
use Rattle.core_world.proofs.laws.quiet_events_leave_logs.Goals as goal

pub returns : goal.returns
returns c = record { leave = quiet_leaves; on = quiet_both }
