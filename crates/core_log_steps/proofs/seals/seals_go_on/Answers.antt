-- Server by server.
use Rattle.core_log_steps.proofs.Sealing.{seals_go_on}
use Rattle.core_log_steps.proofs.seals.seals_go_on.Goals as goal

pub returns : goal.returns
returns c = seals_go_on c.leases_last.ensures.end c.replayed_logs_stay_replayed.ensures c.logs_go_on.ensures.step
