-- Fetches.
use Rattle.core_commits.proofs.Claiming.{sectors_are_fetched}
use Rattle.core_commits.proofs.commits.claimed_sectors_are_fetched.Goals as goal

pub returns : goal.returns
returns c = record { fetched = sectors_are_fetched }
