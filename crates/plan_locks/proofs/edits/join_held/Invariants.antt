-- The set so far, and the segments that are left.
use Rattle.std.proofs.Common.{◌≡◌}
use Rattle.std.specs.Map.{keys_of}
use Rattle.set_definitions.specs.Sets.{joined_all}
use Rattle.disk_definitions.specs.Plans.{sole_segments}
use Rattle.plan_locks.proofs.edits.join_held.Given as goal

abbrev pub invariant-loop-segment : goal.invariant-loop-segment
invariant-loop-segment l = joined_all l.set (sole_segments l.segment-iterator) ≡ joined_all l.initial.set (sole_segments (keys_of l.held))
