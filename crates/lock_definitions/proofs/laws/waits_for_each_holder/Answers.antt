use Rattle.lock_definitions.proofs.Answers.{bit_of_holder, granted_exactly}
use Rattle.lock_definitions.proofs.laws.waits_for_each_holder.Goals as goal

pub returns : goal.returns
returns c = record { granted = granted_exactly; bits = bit_of_holder }
