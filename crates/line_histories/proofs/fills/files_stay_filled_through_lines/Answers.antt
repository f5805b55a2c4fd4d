-- By the edits of each plan.
use Rattle.line_histories.proofs.FilesFilled.{lines_leave_filled}
use Rattle.line_histories.proofs.fills.files_stay_filled_through_lines.Goals as goal

pub returns : goal.returns
returns c = record { filled = lines_leave_filled }
