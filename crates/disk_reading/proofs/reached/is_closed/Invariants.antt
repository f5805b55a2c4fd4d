use Rattle.std.proofs.Common.{◌≡◌}
use Rattle.standing_laws.specs.Below.{all_below}
use Rattle.disk_reading.specs.Reach.{is_closed_at, nodes_at}
use Rattle.disk_reading.proofs.reached.is_closed.Given as goal

abbrev pub invariant-loop-birth : goal.invariant-loop-birth
invariant-loop-birth l = l.all ≡ all_below l.birth (is_closed_at l.flags (nodes_at l.nodes.entries))
