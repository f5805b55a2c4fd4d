-- By the plan of the line.
use Rattle.core_histories.proofs.Recovered.{a_recovery_is_told}
use Rattle.core_histories.proofs.examples.a_recovery_is_told.Goals as goal

pub returns : goal.returns
returns c = record { told = a_recovery_is_told }
