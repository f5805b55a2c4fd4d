-- Step by step.
use Rattle.core_order.proofs.InTurn.{puts_in_turn}
use Rattle.core_order.proofs.order.puts_are_in_turn.Goals as goal

pub returns : goal.returns
returns c = record { turns = puts_in_turn c.leases_last.ensures.end c.stale_writes_are_late.ensures.within }
