-- Clear.
use Rattle.core_commits.proofs.Clearing.{blocks_are_cleared, clears_are_events}
use Rattle.core_commits.proofs.clears.clears_are_events.Goals as goal

pub returns : goal.returns
returns c = record { cleared = blocks_are_cleared; clear = clears_are_events }
