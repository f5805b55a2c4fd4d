-- By the deeds, oldest first.
use Rattle.stop_laws.proofs.Deeds.{all_known}
use Rattle.stop_laws.proofs.at_stops.cells_are_known.Goals as goal

pub returns : goal.returns
returns c = record { known = all_known }
