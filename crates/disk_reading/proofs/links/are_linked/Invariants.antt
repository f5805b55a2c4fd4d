use Rattle.std.proofs.Common.{◌≡◌}
use Rattle.standing_laws.specs.Below.{all_below}
use Rattle.disk_reading.specs.Names.{is_linked}
use Rattle.disk_reading.proofs.links.are_linked.Given as goal

abbrev pub invariant-loop-i : goal.invariant-loop-i
invariant-loop-i l = l.all ≡ all_below l.i (is_linked l.nodes.entries)
