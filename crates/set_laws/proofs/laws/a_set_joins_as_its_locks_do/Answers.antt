-- Lock by lock.
use Rattle.set_laws.proofs.Joining.{joins_as_its_locks}
use Rattle.set_laws.proofs.laws.a_set_joins_as_its_locks_do.Goals as goal

pub returns : goal.returns
returns c = record { joined = joins_as_its_locks }
