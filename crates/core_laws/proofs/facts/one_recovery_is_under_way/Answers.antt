-- Event by event, beside what is in the memory of who rests.
use Rattle.core_laws.proofs.Recovering.{of_the_dead, one_at_most}
use Rattle.core_laws.proofs.facts.one_recovery_is_under_way.Goals as goal

pub returns : goal.returns
returns c = record { dead = of_the_dead; one = one_at_most }
