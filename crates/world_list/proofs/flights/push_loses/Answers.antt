-- One more is listed, and at last all are.
use Rattle.std.proofs.Common.{◌≡◌, ap, ◌∙◌, arith, length, refl}
use Rattle.petal_disk.specs.Flights.{Flights}
use Rattle.world_list.specs.Listing.{events_of}
use Rattle.world_list.specs.Rows.{lose_of}
use Rattle.world_list.proofs.FlightsListed.{loses_added, place_listed}
use Rattle.world_list.proofs.flights.push_loses.Goals as goal

pub loop-i-preserved : goal.loop-i-preserved
loop-i-preserved c =
    place_listed (λ one. lose_of c.args.world.now one.0.0) c.args.world.now.flights.flying (events_of c.args.list.now.items) (events_of c.loop-i.list.items) (events_of c.push_lose.new.list.items) c.loop-i.i c.loop-i.invariant c.in_ok-push_lose.ensures

pub returns : goal.returns
returns c =
    let count : c.count-i-end.result ≡ length c.args.world.now.flights.flying = c.count-i-end.ensures.all ∙ ap (λ (f : Flights). length f.flying) c.flights.ensures in
    let all : c.loop-i.i ≡ length c.args.world.now.flights.flying = omega arith in
    loses_added c.args.world.now c.args.world.now.flights refl c.args.list.now.items c.loop-i.list.items c.loop-i.i all c.loop-i.invariant
