-- By the last number.
use Rattle.core_line_steps.proofs.Ended.{clears_keep_ends}
use Rattle.core_line_steps.proofs.marks.clears_keep_ends.Goals as goal

pub returns : goal.returns
returns c = record { ends = clears_keep_ends }
