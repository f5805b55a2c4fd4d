-- One more is listed, and at last all are.
use Rattle.std.proofs.Common.{◌≡◌, ◌∷◌, [], arith, length}
use Rattle.core_definitions.specs.Events.{Arrive}
use Rattle.world_list.specs.Listing.{events_of}
use Rattle.world_list.proofs.FlightsListed.{arrives_added, place_listed}
use Rattle.world_list.proofs.flights.push_arrives.Goals as goal

pub loop-i-preserved : goal.loop-i-preserved
loop-i-preserved c =
    place_listed (λ one. Arrive one.0.0 ∷ []) c.flights-flights.result.now.flying (events_of c.args.list.now.items) (events_of c.loop-i.list.items) (events_of c.push_arrive.new.list.items) c.loop-i.i c.loop-i.invariant c.in_ok-push_arrive.ensures

pub returns : goal.returns
returns c =
    let all : c.loop-i.i ≡ length c.flights-flights.result.now.flying = omega arith in
    arrives_added c.args.world.now c.flights-flights.result.now c.flights-flights.ensures c.args.list.now.items c.loop-i.list.items c.loop-i.i all c.loop-i.invariant
