-- Along the locks.
use Rattle.set_laws.proofs.Lacking.{lacked_as_its_locks}
use Rattle.set_laws.proofs.laws.a_set_is_lacked_as_its_locks_are.Goals as goal

pub returns : goal.returns
returns c = record { lacking = lacked_as_its_locks }
