-- The row.
use Rattle.kept_examples.proofs.Meeting.{nobody_met}
use Rattle.kept_examples.proofs.rows.whom_nobody_meets.Goals as goal

pub returns : goal.returns
returns c = record { unmet = nobody_met }
