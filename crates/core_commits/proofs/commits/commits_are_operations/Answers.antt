-- Caches and writes in flight.
use Rattle.core_commits.proofs.Claiming.{commits_keep_caches, commits_keep_flights}
use Rattle.core_commits.proofs.commits.commits_are_operations.Goals as goal

pub returns : goal.returns
returns c = record { caches = commits_keep_caches; flights = commits_keep_flights }
