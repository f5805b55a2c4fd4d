-- Step by step.
use Rattle.core_order.proofs.Others.{others_empty}
use Rattle.core_order.proofs.starting.the_other_logs_stay_empty.Goals as goal

pub returns : goal.returns
returns c = record { empty = others_empty c.leases_last.ensures.end }
