-- Of one segment.
use Rattle.disk_check.specs.Parts.{inode_part}
use Rattle.disk_check.proofs.checking.inode_part.Goals as goal

pub returns : goal.returns
unfolding inode_part
returns c = c.inode_faults.ensures
