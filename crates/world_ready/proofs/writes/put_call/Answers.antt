-- The write that is found in flight, and none where none is.
use Rattle.world_state.specs.States.{core_at}
use Rattle.world_ready.proofs.WriteReady.{puts, puts_none}
use Rattle.world_ready.proofs.writes.put_call.Goals as goal

pub returns-in-Some : goal.returns-in-Some
returns-in-Some c = puts (core_at c.args.world.now) c.args.ticket c.in-Some.party c.in-Some.sector c.flying.result c.flying.ensures.party c.flying.ensures.sector c.in-Some.is

pub returns-in-None : goal.returns-in-None
returns-in-None c = puts_none (core_at c.args.world.now) c.args.ticket c.flying.result c.flying.ensures.party c.in-None.is
