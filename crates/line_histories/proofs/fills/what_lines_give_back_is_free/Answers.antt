-- By the edits of each plan.
use Rattle.line_histories.proofs.FilesFilled.{lines_give_back_free}
use Rattle.line_histories.proofs.fills.what_lines_give_back_is_free.Goals as goal

pub returns : goal.returns
returns c = record { free = lines_give_back_free }
