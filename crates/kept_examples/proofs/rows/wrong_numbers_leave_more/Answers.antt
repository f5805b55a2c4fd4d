-- The row.
use Rattle.kept_examples.proofs.WrongRules.{greatest_wrong}
use Rattle.kept_examples.proofs.rows.wrong_numbers_leave_more.Goals as goal

pub returns : goal.returns
returns c = record { number = greatest_wrong }
