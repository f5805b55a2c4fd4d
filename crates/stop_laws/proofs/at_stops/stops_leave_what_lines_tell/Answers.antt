-- By the laws.
use Rattle.stop_laws.proofs.LinesStop.{stops_leave_what_lines_tell, stops_stand_for_what_lines_tell}
use Rattle.stop_laws.proofs.at_stops.stops_leave_what_lines_tell.Goals as goal

pub returns : goal.returns
returns c = record { lines = stops_leave_what_lines_tell; closed = stops_stand_for_what_lines_tell }
