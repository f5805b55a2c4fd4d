-- By the laws.
use Rattle.stop_laws.proofs.Closed.{doubt_stands, recoveries_of_nothing_stand}
use Rattle.stop_laws.proofs.ClosedStops.{closed_servers_stand}
use Rattle.stop_laws.proofs.at_stops.recoveries_of_nothing_leave_what_stands.Goals as goal

pub returns : goal.returns
returns c = record { doubt = doubt_stands; stands = recoveries_of_nothing_stand; closed = closed_servers_stand }
