-- By the law.
use Rattle.stop_laws.proofs.SettledLeft.{stops_leave_the_tree}
use Rattle.stop_laws.proofs.at_stops.stops_leave_the_tree_of_the_history.Goals as goal

pub returns : goal.returns
returns c = record { tree = stops_leave_the_tree }
