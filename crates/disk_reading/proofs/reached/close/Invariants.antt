use Rattle.disk_reading.specs.Reach.{IsOnTheWay, nodes_at, unflagged}
use Rattle.disk_reading.proofs.reached.close.Given as goal

abbrev pub invariant-loop-flags : goal.invariant-loop-flags
invariant-loop-flags l = IsOnTheWay (nodes_at l.nodes.entries) l.initial.flags l.flags

abbrev pub decreases-loop-flags : goal.decreases-loop-flags
decreases-loop-flags l = unflagged l.flags
