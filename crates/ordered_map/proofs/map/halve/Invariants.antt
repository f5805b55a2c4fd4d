-- The chunks before `low` end below the key, and those from `high` on don't.
use Rattle.std.proofs.Common.{◌-◌, ◌≤◌, length}
use Rattle.ordered_map.specs.Chunks.{EndBelow, Reach}
use Rattle.ordered_map.proofs.map.halve.Given as goal

abbrev pub invariant-loop-low : goal.invariant-loop-low
invariant-loop-low g l = (l.low ≤ l.high) × (l.high ≤ length l.chunks) × EndBelow g.K.Ord.cmp l.key l.chunks l.low × Reach g.K.Ord.cmp l.key l.chunks l.high

abbrev pub decreases-loop-low : goal.decreases-loop-low
decreases-loop-low g l = l.high - l.low
