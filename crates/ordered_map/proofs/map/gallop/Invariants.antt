-- The chunks so far end below the key, and a step is at least one chunk.
use Rattle.std.proofs.Common.{◌-◌, ◌<◌, ◌≤◌, length}
use Rattle.ordered_map.specs.Chunks.{EndBelow}
use Rattle.ordered_map.proofs.map.gallop.Given as goal

abbrev pub invariant-loop-step : goal.invariant-loop-step
invariant-loop-step g l = (l.low ≤ length l.chunks) × (0 < l.step) × EndBelow g.K.Ord.cmp l.key l.chunks l.low

abbrev pub decreases-loop-step : goal.decreases-loop-step
decreases-loop-step g l = length l.chunks - l.low
