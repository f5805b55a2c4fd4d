use Rattle.std.proofs.Common.{sum_by}
use Rattle.tree_definitions.specs.WellFormed.{one_at}
use Rattle.disk_reading.specs.Names.{AreCountedOn}
use Rattle.disk_reading.proofs.links.count_entries.Given as goal

abbrev pub invariant-loop-birth : goal.invariant-loop-birth
invariant-loop-birth l = AreCountedOn (λ i. sum_by (λ r. one_at i r.now) l.yielded) l.initial.counts l.counts
