-- Law by law.
use Rattle.stop_laws.proofs.Along.{histories_keep_coverage}
use Rattle.stop_laws.proofs.Covered.{removals_keep_coverage}
use Rattle.stop_laws.proofs.at_stops.doubt_stays_covered.Goals as goal

pub returns : goal.returns
returns c = record { removal = removals_keep_coverage; histories = histories_keep_coverage }
