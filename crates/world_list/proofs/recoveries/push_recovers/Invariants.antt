-- The logs of the servers so far are listed.
use Rattle.std.specs.List.{flat_map}
use Rattle.tree_definitions.specs.Numbers.{below}
use Rattle.core_definitions.specs.Cores.{parties}
use Rattle.core_definitions.specs.EndGuards.{may_recover}
use Rattle.core_definitions.specs.Enabled.{only}
use Rattle.core_definitions.specs.Events.{Recover}
use Rattle.world_list.specs.Listing.{Adds}
use Rattle.world_list.proofs.recoveries.push_recovers.Given as goal
use Rattle.world_state.specs.States.{core_at}

abbrev pub invariant-loop-dead : goal.invariant-loop-dead
invariant-loop-dead l =
    Adds l.fn.list.items l.list.items (flat_map (λ dead. flat_map (λ by. only (may_recover (core_at l.world) dead by) (Recover dead by)) parties) (below l.dead))
