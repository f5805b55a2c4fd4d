-- No server so far waits.
use Rattle.std.proofs.Common.{◌≡◌, false}
use Rattle.std.specs.List.{list_any}
use Rattle.core_definitions.specs.EndGuards.{is_to_recover}
use Rattle.tree_definitions.specs.Numbers.{below}
use Rattle.world_state.specs.States.{core_at}
use Rattle.world_state.proofs.world.World.is_one_below.Given as goal

abbrev pub invariant-loop-a : goal.invariant-loop-a
invariant-loop-a l = list_any (is_to_recover (core_at l.self)) (below l.a) ≡ false
