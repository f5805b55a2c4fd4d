-- The row.
use Rattle.kept_examples.proofs.Moments.{a_moment_meets}
use Rattle.kept_examples.proofs.rows.a_moment_meets_what_is_asked.Goals as goal

pub returns : goal.returns
returns c = record { moment = a_moment_meets }
