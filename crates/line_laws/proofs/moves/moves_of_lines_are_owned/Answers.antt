-- By the plan that follows, with the locks of its trail.
use Rattle.line_laws.proofs.Laws.{line_moves_are_owned}
use Rattle.line_laws.proofs.moves.moves_of_lines_are_owned.Goals as goal

pub returns : goal.returns
returns c = record { owned = line_moves_are_owned }
