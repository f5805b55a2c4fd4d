use Rattle.std.proofs.Common.{◌≡◌, ◌+◌, ◌≤◌}
use Rattle.std.specs.VecDeque.{deque_len, deque_capacity}
use Rattle.ring_definitions.specs.Rings.{Ring, passed}
use Rattle.wal_ring.proofs.ring.pass.Given as goal

abbrev pub invariant-loop-above : goal.invariant-loop-above
invariant-loop-above l = record {
  passes : (ring : Ring) → passed ring l.reached l.above.items ≡ passed ring l.fn.reached l.fn.above.items;
  rises : l.fn.reached ≤ l.reached;
  numbers : l.reached + deque_len l.above ≡ l.fn.reached + deque_len l.fn.above;
  capacity : deque_capacity l.fn.above ≤ deque_capacity l.above;
}

abbrev pub decreases-loop-above : goal.decreases-loop-above
decreases-loop-above l = deque_len l.above
