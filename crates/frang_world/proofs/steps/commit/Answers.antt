-- The kept plan comes to what the line is finished with.
use Rattle.std.proofs.Common.{sym, ap, ◌∙◌}
use Rattle.core_definitions.specs.LineEffects.{committed_at}
use Rattle.world_state.specs.States.{core_at}
use Rattle.frang_world.proofs.steps.commit.Goals as goal

pub returns : goal.returns
returns c = c.commit-reply.ensures.core c.requires.outcome c.requires.comes ∙ ap (committed_at (core_at c.args.world.now) c.args.a.0) (sym c.requires.finishes)
