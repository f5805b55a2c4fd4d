-- By what stands.
use Rattle.core_readings.proofs.Finishing.{finished_logs_rest}
use Rattle.core_readings.proofs.logs.finished_logs_rest.Goals as goal

pub returns : goal.returns
returns c = finished_logs_rest c.leases_last.ensures.end
