-- By the doubt of the part, which is the same on both sides.
use Rattle.stop_laws.proofs.Covering.{doubt_covers}
use Rattle.stop_laws.proofs.at_stops.doubt_covers_what_is_marked.Goals as goal

pub returns : goal.returns
returns c = record { covers = doubt_covers }
