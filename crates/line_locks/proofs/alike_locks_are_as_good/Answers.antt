-- By the mode that the locks have of each lock.
use Rattle.line_locks.proofs.Joining.{join_alike, lack_alike, sets_alike}
use Rattle.line_locks.proofs.alike_locks_are_as_good.Goals as goal

pub returns : goal.returns
returns c = record { join = join_alike; lack = lack_alike; sets = sets_alike }
