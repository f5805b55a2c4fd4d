-- Law by law.
use Rattle.stop_laws.proofs.Along.{histories_keep_sight}
use Rattle.stop_laws.proofs.Covered.{removals_keep_sight}
use Rattle.stop_laws.proofs.at_stops.operations_see_their_locks.Goals as goal

pub returns : goal.returns
returns c = record { removal = removals_keep_sight; histories = histories_keep_sight }
