-- What the moves behind the place say is listed.
use Rattle.std.proofs.Common.{◌≤◌, length, drop}
use Rattle.plan_keeping.specs.Moved.{Covers, says}
use Rattle.plan_keeping.proofs.moved.moved_sectors.Given as goal

abbrev pub invariant-loop-left : goal.invariant-loop-left
invariant-loop-left l = (l.left ≤ length l.moves) × Covers l.list.items (says l.segments (drop l.left l.moves))

abbrev pub decreases-loop-left : goal.decreases-loop-left
decreases-loop-left l = l.left
