-- By what every event keeps, and by the ring of an Append.
use Rattle.core_line_journals.proofs.Kept.{commits_are_logged, commits_keep_the_disk}
use Rattle.core_line_journals.proofs.disks.commits_keep_the_disk.Goals as goal

pub returns : goal.returns
returns c = record { disk = commits_keep_the_disk; logged = commits_are_logged }
