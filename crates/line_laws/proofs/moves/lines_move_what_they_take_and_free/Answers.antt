-- By the plan that follows, with the locks of its trail.
use Rattle.line_laws.proofs.Laws.{lines_move, covers_follow_lines}
use Rattle.line_laws.proofs.moves.lines_move_what_they_take_and_free.Goals as goal

pub returns : goal.returns
returns c = record { tidy = lines_move; covers = covers_follow_lines }
