-- By the plan that follows, with the locks of its trail.
use Rattle.line_laws.proofs.Laws.{line_bytes_are_owned}
use Rattle.line_laws.proofs.moves.bytes_of_lines_are_owned.Goals as goal

pub returns : goal.returns
returns c = record { owned = line_bytes_are_owned }
