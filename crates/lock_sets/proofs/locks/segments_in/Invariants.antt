-- The segments so far, and those of the locks that are left.
use Rattle.std.proofs.Common.{◌≡◌, ◌++◌, drop}
use Rattle.set_definitions.specs.Sets.{segments_in}
use Rattle.lock_sets.proofs.locks.segments_in.Given as goal

abbrev pub invariant-loop-need : goal.invariant-loop-need
invariant-loop-need l = l.segments.items ++ segments_in (drop l.need-index l.locks) ≡ segments_in l.locks
