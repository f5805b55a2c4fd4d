-- What is listed, and then those left.
use Rattle.std.proofs.Common.{◌≡◌, ◌++◌, ◌∷◌, [], drop}
use Rattle.std.specs.List.{flat_map}
use Rattle.core_definitions.specs.Events.{Arrive}
use Rattle.world_list.specs.Listing.{events_of}
use Rattle.world_list.proofs.flights.push_arrives.Given as goal

abbrev pub invariant-loop-i : goal.invariant-loop-i
invariant-loop-i l =
    events_of l.list.items ++ flat_map (λ one. Arrive one.0.0 ∷ []) (drop l.i l.flights.flying) ≡ events_of l.fn.list.items ++ flat_map (λ one. Arrive one.0.0 ∷ []) l.flights.flying
