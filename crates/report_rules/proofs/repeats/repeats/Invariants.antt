use Rattle.disk_reading.specs.Marks.{flag_at}
use Rattle.disk_reading.specs.Reach.{AreFlaggedOn}
use Rattle.disk_reading.specs.Seen.{store_in}
use Rattle.report_rules.specs.Repeats.{repeats_to}
use Rattle.report_rules.proofs.repeats.repeats.Given as goal

abbrev pub invariant-loop-d : goal.invariant-loop-d
invariant-loop-d l = AreFlaggedOn (repeats_to (store_in l.segments l.disk) (flag_at l.reached) l.d) l.initial.repeats l.repeats
