-- Step by step.
use Rattle.core_order.proofs.Ordering.{always_in_order, writes_in_order}
use Rattle.core_order.proofs.order.writes_are_in_order.Goals as goal

pub returns : goal.returns
returns c =
    let order = writes_in_order c.leases_last.ensures.end c.stale_writes_are_late.ensures.within c.writes_are_named.ensures c.the_other_logs_stay_empty.ensures.empty
    c.logs_read_as_their_journals.ensures.reads in
    record { order = order; prefixes = always_in_order order }
