-- By the guard.
use Rattle.std.proofs.Common.{sym, ◌∙◌}
use Rattle.world_ready.proofs.EndReady.{closes, closes_not}
use Rattle.world_ready.proofs.ends.ready_close.Goals as goal

pub returns-then-not-may_close : goal.returns-then-not-may_close
returns-then-not-may_close c = closes_not c.args.world.now c.args.a (sym c.may_close.ensures ∙ c.if-not-may_close.true)

pub returns : goal.returns
returns c = closes c.args.world.now c.args.a (sym c.may_close.ensures ∙ c.if-not-may_close.false)
