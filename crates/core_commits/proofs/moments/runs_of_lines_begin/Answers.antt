-- The first moment.
use Rattle.core_commits.proofs.Beginning.{begins}
use Rattle.core_commits.proofs.moments.runs_of_lines_begin.Goals as goal

pub returns : goal.returns
returns c = record { first = begins c.first_moments_are_worlds.ensures.first c.first_moments_are_worlds.ensures.good }
