-- Of one segment.
use Rattle.disk_check.specs.Parts.{block_part}
use Rattle.disk_check.proofs.checking.block_part.Goals as goal

pub returns : goal.returns
unfolding block_part
returns c = c.part_faults.ensures
