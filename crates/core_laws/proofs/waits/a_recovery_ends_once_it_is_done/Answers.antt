-- By the guard of Finish.
use Rattle.core_laws.proofs.Waiting.{done_at_end}
use Rattle.core_laws.proofs.waits.a_recovery_ends_once_it_is_done.Goals as goal

pub returns : goal.returns
returns u = record { done = done_at_end }
