-- As all logs are at rest there.
use Rattle.core_readings.proofs.Beginning.{logs_begin_beside}
use Rattle.core_readings.proofs.logs.logs_begin_beside.Goals as goal

pub returns : goal.returns
returns c = logs_begin_beside c.logs_stand_good.ensures.begin c.logs_stand_good.ensures.opening
