-- Its tree.
use Rattle.core_commits.proofs.OneDisk.{the_disk_stands}
use Rattle.core_commits.proofs.standing.the_one_disk_stands.Goals as goal

pub returns : goal.returns
returns c = record { stands = the_disk_stands }
