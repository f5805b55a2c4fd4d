-- What is in flight of its mount is what the core knows of it.
use Rattle.world_asks.proofs.Due.{due_is}
use Rattle.world_asks.proofs.asking.Asking.due.Goals as goal

pub returns : goal.returns
returns c =
    due_is c.args.self.now c.world-world.result.now c.flights.result.now c.parties.result.now c.number.result.0 c.number-2.result.0 c.has_flights-flies.result c.due.result c.world-world.ensures
    c.flights.ensures c.parties.ensures c.number.ensures.number c.number-2.ensures.number c.has_flights-flies.ensures c.the_mounts_writes_are_the_cores.ensures.asked c.due.ensures
