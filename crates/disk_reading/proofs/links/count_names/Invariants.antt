use Rattle.std.proofs.Common.{sum_by}
use Rattle.tree_definitions.specs.WellFormed.{names_in}
use Rattle.disk_reading.specs.Names.{AreCountedOn}
use Rattle.disk_reading.proofs.links.count_names.Given as goal

abbrev pub invariant-loop-node : goal.invariant-loop-node
invariant-loop-node l = AreCountedOn (λ i. sum_by (λ r. names_in i r.now) l.yielded) l.initial.counts l.counts
