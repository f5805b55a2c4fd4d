use Rattle.disk_reading.specs.Reach.{HasSpread, nodes_at}
use Rattle.disk_reading.proofs.reached.spread.Given as goal

abbrev pub invariant-loop-birth : goal.invariant-loop-birth
invariant-loop-birth l = HasSpread (nodes_at l.nodes.entries) l.initial.flags l.birth l.flags
