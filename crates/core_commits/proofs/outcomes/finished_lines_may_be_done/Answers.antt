-- The operation.
use Rattle.core_commits.proofs.Operating.{finished_lines_may_be_done}
use Rattle.core_commits.proofs.outcomes.finished_lines_may_be_done.Goals as goal

pub returns : goal.returns
returns c = record { done = finished_lines_may_be_done }
