-- By the names from the left, and by the links that are left.
use Rattle.line_laws.proofs.Ways.{resolved_places}
use Rattle.line_laws.proofs.lines.resolved_paths_are_places.Goals as goal

pub returns : goal.returns
returns c = record { places = resolved_places }
