-- Outcome by outcome.
use Rattle.stop_laws.proofs.Stops.{stop_known}
use Rattle.stop_laws.proofs.byte_laws.a_stop_leaves_known_cells.Goals as goal

pub returns : goal.returns
returns c = record { stands = stop_known }
