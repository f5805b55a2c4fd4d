-- Nothing of one that is no server.
use Rattle.std.proofs.Common.{sym, ◌∙◌}
use Rattle.world_state.specs.States.{core_at}
use Rattle.world_ready.proofs.OwnReady.{owns_nothing}
use Rattle.world_ready.proofs.made.ready_of.Goals as goal

pub returns-else-is_server-clause-made : goal.returns-else-is_server-clause-made
returns-else-is_server-clause-made c = owns_nothing (core_at c.args.world.now) c.args.world.now c.args.a.0 (sym c.is_server.ensures ∙ c.if-is_server.false) c.args.asked c.requires.own
