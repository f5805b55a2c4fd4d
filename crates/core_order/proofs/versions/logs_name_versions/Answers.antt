-- By journals, step by step.
use Rattle.core_order.proofs.Rising.{versions_begin, versions_named, versions_stay}
use Rattle.core_order.proofs.versions.logs_name_versions.Goals as goal

pub returns : goal.returns
returns c =
    let reads = c.logs_read_as_their_journals.ensures.reads in
    record { named = versions_named reads; begin = versions_begin; stay = versions_stay c.leases_last.ensures.end reads }
