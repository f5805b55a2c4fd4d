-- The core is the same, and there is room for a slot.
use Rattle.std.proofs.lemmas.Bool.{ltb-true}
use Rattle.frang_base.specs.declared.limits.TheConstants.{SERVERS}
use Rattle.world_state.specs.States.{core_at}
use Rattle.world_ready.proofs.FetchReady.{fetches_slot}
use Rattle.world_ready.proofs.fetches.ready_slot.Goals as goal

pub ready_slot-requires : goal.ready_slot-requires
ready_slot-requires c = ltb-true c.args.a.0 SERVERS c.requires.can.server

pub returns-clause-made : goal.returns-clause-made
returns-clause-made c =
    fetches_slot (core_at c.args.world.now) c.ready_slot.new.self c.args.a c.args.sector c.requires.can c.requires.off c.requires.slot c.in_ok-ready_slot.ensures.ok
