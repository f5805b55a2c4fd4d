-- Needs.
use Rattle.core_commits.proofs.Needing.{needed_sectors_come_in}
use Rattle.core_commits.proofs.needs.needed_sectors_come_in.Goals as goal

pub returns : goal.returns
returns c = record { come = needed_sectors_come_in }
