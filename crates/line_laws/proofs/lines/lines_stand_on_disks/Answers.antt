-- By the plan that follows, which stands.
use Rattle.line_laws.proofs.OnDisk.{lines_stand}
use Rattle.line_laws.proofs.lines.lines_stand_on_disks.Goals as goal

pub returns : goal.returns
returns c = record { stand = lines_stand }
