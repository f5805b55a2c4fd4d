-- Of one segment.
use Rattle.disk_check.specs.Parts.{segment_part}
use Rattle.disk_check.proofs.checking.segment_part.Goals as goal

pub returns : goal.returns
unfolding segment_part
returns c = c.segment_faults.ensures
