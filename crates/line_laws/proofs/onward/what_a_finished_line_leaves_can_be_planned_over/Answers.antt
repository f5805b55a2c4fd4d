-- By what its edits write.
use Rattle.line_laws.proofs.Going.{finished_lines_go_on, onward_stands_below}
use Rattle.line_laws.proofs.onward.what_a_finished_line_leaves_can_be_planned_over.Goals as goal

pub returns : goal.returns
returns c = record { onward = finished_lines_go_on; below = onward_stands_below }
