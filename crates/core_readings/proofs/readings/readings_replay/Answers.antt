-- By versions.
use Rattle.core_readings.proofs.Replaying.{reads_as}
use Rattle.core_readings.proofs.readings.readings_replay.Goals as goal

pub returns : goal.returns
returns c = reads_as
