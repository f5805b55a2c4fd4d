-- Step by step.
use Rattle.core_facts.proofs.Taking.{holds_of_recoveries, lasts_as_lease, on_the_dead, recoverers_hold}
use Rattle.core_facts.proofs.holds.who_holds_a_log_recovers_it.Goals as goal

pub returns : goal.returns
returns c = record { dead = on_the_dead; recovery = holds_of_recoveries; lease = lasts_as_lease; taken = recoverers_hold }
