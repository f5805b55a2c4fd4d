-- A fresh block.
use Rattle.core_commits.proofs.Freshness.{cleared_blocks_are_fresh}
use Rattle.core_commits.proofs.clears.cleared_blocks_are_fresh.Goals as goal

pub returns : goal.returns
returns c = record { fresh = cleared_blocks_are_fresh }
