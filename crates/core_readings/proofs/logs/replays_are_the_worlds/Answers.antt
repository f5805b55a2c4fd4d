-- Log by log.
use Rattle.core_readings.proofs.Replays.{replays_are_the_worlds}
use Rattle.core_readings.proofs.logs.replays_are_the_worlds.Goals as goal

pub returns : goal.returns
returns c = replays_are_the_worlds
