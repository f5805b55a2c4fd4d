use Rattle.std.proofs.Common.{if◌then◌else◌}
use Rattle.disk_reading.specs.Marks.{flag_at}
use Rattle.disk_reading.specs.Seen.{store_in}
use Rattle.report_definitions.specs.Rules.{names_by}
use Rattle.report_definitions.specs.Sums.{sum_below}
use Rattle.report_rules.specs.Names.{HaveCounted}
use Rattle.report_rules.proofs.names.names.Given as goal

abbrev pub invariant-loop-d : goal.invariant-loop-d
invariant-loop-d l = HaveCounted (λ i. sum_below l.d (λ d. if flag_at l.reached d then names_by (store_in l.segments l.disk) d i else 0)) l.initial.counts l.counts
