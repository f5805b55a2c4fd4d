-- The guard.
use Rattle.core_commits.proofs.Committing.{outcomes_may_be_done}
use Rattle.core_commits.proofs.commits.outcomes_may_be_done.Goals as goal

pub returns : goal.returns
returns c = record { done = outcomes_may_be_done }
