-- The segments so far have low numbers.
use Rattle.plan_disks.proofs.HeldSegments.{AreLow}
use Rattle.plan_disks.proofs.segments.held_of.Given as goal

abbrev pub invariant-loop-name : goal.invariant-loop-name
invariant-loop-name l = AreLow l.held
