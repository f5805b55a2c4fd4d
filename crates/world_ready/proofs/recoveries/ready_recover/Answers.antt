-- By the guard, with the recovery as it begins.
use Rattle.std.proofs.Common.{sym, ◌∙◌}
use Rattle.world_ready.proofs.RecoveryReady.{recovers, recovers_not}
use Rattle.world_ready.proofs.recoveries.ready_recover.Goals as goal

pub returns-then-not-may_recover : goal.returns-then-not-may_recover
returns-then-not-may_recover c = recovers_not c.args.world.now c.args.dead c.args.by (sym c.may_recover.ensures ∙ c.if-not-may_recover.true)

pub returns : goal.returns
returns c =
    recovers c.args.world.now c.args.dead c.args.by c.in_ok-demon.demon c.in_ok-text.text (sym c.may_recover.ensures ∙ c.if-not-may_recover.false)
    c.in_ok-demon.ensures.recovery c.in_ok-demon.ensures.disk c.in_ok-demon.ensures.issued c.in_ok-text.ensures
