use Rattle.std.proofs.Common.{◌≡◌, ◌≤◌, ◌&&◌}
use Rattle.disk_reading.specs.Marks.{flag_at}
use Rattle.disk_reading.specs.Seen.{store_in}
use Rattle.standing_laws.specs.Soundness.{has_kind}
use Rattle.report_definitions.specs.Sums.{count_below}
use Rattle.disk_check.proofs.counts.count_of_kind.Given as goal

abbrev pub invariant-loop-i : goal.invariant-loop-i
invariant-loop-i l = record {
  counted : l.count ≡ count_below l.i (λ i. flag_at l.reached i && has_kind ((store_in l.segments l.disk).inode i) l.kind);
  few : l.count ≤ l.i;
}
