-- No line of a server so far is at the gate.
use Rattle.std.proofs.Common.{◌≡◌, false}
use Rattle.std.specs.List.{list_any}
use Rattle.core_definitions.specs.LineGuards.{is_at_gate}
use Rattle.tree_definitions.specs.Numbers.{below}
use Rattle.world_state.specs.States.{core_at}
use Rattle.world_list.proofs.clock.is_one_at_gate.Given as goal

abbrev pub invariant-loop-a : goal.invariant-loop-a
invariant-loop-a l = list_any (is_at_gate (core_at l.world)) (below l.a) ≡ false
