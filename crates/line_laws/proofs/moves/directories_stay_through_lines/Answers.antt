-- By the plan that follows, with the locks of its trail.
use Rattle.line_laws.proofs.Laws.{line_directories_stay}
use Rattle.line_laws.proofs.moves.directories_stay_through_lines.Goals as goal

pub returns : goal.returns
returns c = record { stay = line_directories_stay }
