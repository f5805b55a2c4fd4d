-- Its stage was read before.
use Rattle.std.proofs.Common.{◌≡◌, ◌<◌, length, sym, subst}
use Rattle.world_list.proofs.Staging.{small_is, stage_of_server}
use Rattle.world_list.proofs.asked.asked.Goals as goal

pub stage_in-requires : goal.stage_in-requires
stage_in-requires c = subst (λ n. c.args.a.0 < n) (sym c.requires.stages.long) (small_is c.args.a.0 c.requires.server)

pub staged-requires-clause-stage : goal.staged-requires-clause-stage
staged-requires-clause-stage c = stage_of_server c.args.world.now c.args.stages.now c.args.a.0 c.stage_in.result c.requires.stages (small_is c.args.a.0 c.requires.server) c.stage_in.ensures
