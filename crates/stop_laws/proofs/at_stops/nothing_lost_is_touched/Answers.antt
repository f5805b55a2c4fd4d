-- By the law.
use Rattle.stop_laws.proofs.Pairs.{nothing_lost_is_touched}
use Rattle.stop_laws.proofs.at_stops.nothing_lost_is_touched.Goals as goal

pub returns : goal.returns
returns c = record { none = nothing_lost_is_touched }
