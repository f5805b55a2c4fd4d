-- By the guard.
use Rattle.std.proofs.Common.{sym, ◌∙◌}
use Rattle.world_ready.proofs.LifeReady.{renews, renews_not}
use Rattle.world_ready.proofs.lives.ready_renew.Goals as goal

pub returns-then-not-may_renew : goal.returns-then-not-may_renew
returns-then-not-may_renew c = renews_not c.args.world.now c.args.a (sym c.may_renew.ensures ∙ c.if-not-may_renew.true)

pub returns : goal.returns
returns c = renews c.args.world.now c.args.a (sym c.may_renew.ensures ∙ c.if-not-may_renew.false)
