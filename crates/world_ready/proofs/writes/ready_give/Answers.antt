-- By the guard.
use Rattle.std.proofs.Common.{sym, ◌∙◌}
use Rattle.world_ready.proofs.WriteReady.{gives, gives_not}
use Rattle.world_ready.proofs.writes.ready_give.Goals as goal

pub returns-then-not-may_give : goal.returns-then-not-may_give
returns-then-not-may_give c = gives_not c.args.world.now c.args.a c.args.lock (sym c.may_give.ensures ∙ c.if-not-may_give.true)

pub returns : goal.returns
returns c = gives c.args.world.now c.args.a c.args.lock (sym c.may_give.ensures ∙ c.if-not-may_give.false)
