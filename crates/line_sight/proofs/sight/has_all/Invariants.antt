-- The set has the segments so far.
use Rattle.std.proofs.Common.{◌≡◌, true}
use Rattle.std.specs.List.{list_all}
use Rattle.frang_base.specs.declared.lock.LockId.TheVariants.{Segment}
use Rattle.tree_definitions.specs.Numbers.{below}
use Rattle.set_definitions.specs.Sets.{has_lock}
use Rattle.line_sight.proofs.sight.has_all.Given as goal

abbrev pub invariant-loop-segment : goal.invariant-loop-segment
invariant-loop-segment l = list_all (λ segment. has_lock l.set (Segment segment)) (below l.segment) ≡ true
