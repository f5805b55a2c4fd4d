-- Step by step.
use Rattle.core_facts.proofs.Rescuing.{by_holders, not_written}
use Rattle.core_facts.proofs.rescues.rescues_are_of_who_holds_the_log.Goals as goal

pub returns : goal.returns
returns c = record { holder = by_holders c.leases_last.ensures.end; unwritten = not_written }
