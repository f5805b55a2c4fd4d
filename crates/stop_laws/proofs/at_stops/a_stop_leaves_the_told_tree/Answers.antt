-- By what is known along the history that recoveries of all logs would leave.
use Rattle.stop_laws.proofs.KnownStops.{stop_all}
use Rattle.stop_laws.proofs.at_stops.a_stop_leaves_the_told_tree.Goals as goal

pub returns : goal.returns
returns c = record { stands = stop_all }
