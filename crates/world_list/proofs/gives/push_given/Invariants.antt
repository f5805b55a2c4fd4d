-- What is listed, and then those left.
use Rattle.std.proofs.Common.{◌≡◌, ◌++◌, drop}
use Rattle.std.specs.List.{flat_map}
use Rattle.core_definitions.specs.Enabled.{only}
use Rattle.core_definitions.specs.Events.{Give}
use Rattle.core_definitions.specs.WriteGuards.{may_give}
use Rattle.world_list.specs.Listing.{events_of}
use Rattle.world_list.proofs.gives.push_given.Given as goal
use Rattle.world_state.specs.States.{core_at}

abbrev pub invariant-loop-one : goal.invariant-loop-one
invariant-loop-one l =
    events_of l.list.items ++ flat_map (λ one. only (may_give (core_at l.world) l.a.0 one.0) (Give l.a.0 one.0)) (drop l.one-index l.asked)
    ≡ events_of l.fn.list.items ++ flat_map (λ one. only (may_give (core_at l.world) l.a.0 one.0) (Give l.a.0 one.0)) l.asked
