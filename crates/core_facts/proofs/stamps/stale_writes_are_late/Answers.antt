-- Step by step.
use Rattle.core_facts.proofs.Staling.{fresh_in_time, recovered_over, stale_late, within_leases}
use Rattle.core_facts.proofs.stamps.stale_writes_are_late.Goals as goal

pub returns : goal.returns
returns c =
    let ends = c.leases_last.ensures.end in
    record { late = stale_late ends; fresh = fresh_in_time ends; within = within_leases ends; over = recovered_over ends }
