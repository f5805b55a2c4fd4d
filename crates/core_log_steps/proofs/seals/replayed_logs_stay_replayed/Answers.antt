-- Event by event.
use Rattle.core_log_steps.proofs.Staying.{replayed_stay}
use Rattle.core_log_steps.proofs.seals.replayed_logs_stay_replayed.Goals as goal

pub returns : goal.returns
returns c = replayed_stay
