-- By versions.
use Rattle.core_readings.proofs.Finishing.{resting_is_replayed}
use Rattle.core_readings.proofs.logs.resting_is_replayed.Goals as goal

pub returns : goal.returns
returns c = resting_is_replayed
