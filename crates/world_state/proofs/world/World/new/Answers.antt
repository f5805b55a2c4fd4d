-- Nothing has happened yet.
use Rattle.world_state.proofs.Starting.{first_is}
use Rattle.world_state.proofs.world.World.new.Goals as goal

pub returns : goal.returns
returns c =
    first_is c.args.script c.args.segments c.args.run c.in_ok-places.places c.in_ok-parties.parties c.new-locks.result c.new-flights.result c.in_ok-places.ensures c.in_ok-parties.ensures.servers
    c.in_ok-parties.ensures.segments c.in_ok-parties.ensures.held c.new-locks.ensures c.new-flights.ensures.flying c.new-flights.ensures.next
