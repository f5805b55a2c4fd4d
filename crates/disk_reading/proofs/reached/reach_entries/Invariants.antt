use Rattle.std.proofs.Common.{map}
use Rattle.disk_reading.specs.Reach.{AreFlaggedOn, has_value}
use Rattle.disk_reading.proofs.reached.reach_entries.Given as goal

abbrev pub invariant-loop-birth : goal.invariant-loop-birth
invariant-loop-birth l = AreFlaggedOn (has_value (map (λ r. r.now) l.yielded)) l.initial.flags l.flags
