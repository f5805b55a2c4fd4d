-- All stages are read.
use Rattle.std.proofs.Common.{sym, subst}
use Rattle.world_list.specs.Going.{AreStages}
use Rattle.world_list.proofs.list.enabled_going.Goals as goal

pub enabled_by-requires-clause-stages : goal.enabled_by-requires-clause-stages
enabled_by-requires-clause-stages c = subst (AreStages c.args.world.now) (sym c.deref.ensures.value) c.in_ok-stages.ensures
