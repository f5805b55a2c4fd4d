-- Law by law.
use Rattle.stop_laws.proofs.Lines.{shapes_follow, records_are_losses}
use Rattle.stop_laws.proofs.at_stops.lines_tell_the_same.Goals as goal

pub returns : goal.returns
returns c = record { shapes = shapes_follow; records = records_are_losses }
