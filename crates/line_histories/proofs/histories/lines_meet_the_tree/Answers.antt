-- By the shape of the tree.
use Rattle.line_histories.proofs.Coming.{lines_come}
use Rattle.line_histories.proofs.Meeting.{lines_meet}
use Rattle.line_histories.proofs.histories.lines_meet_the_tree.Goals as goal

pub returns : goal.returns
returns c = record { meets = lines_meet; comes = lines_come }
