-- One change behind another leaves the others fresh, and makes this one so.
use Rattle.std.proofs.lemmas.Result.{on_ok_weaker}
use Rattle.world_asks.proofs.BesideParties.{changes_both, fresh_after, others_fresh}
use Rattle.world_asks.proofs.refreshing.refresh.Goals as goal

pub returns-in_err-refresh_recovery-clause-others : goal.returns-in_err-refresh_recovery-clause-others
returns-in_err-refresh_recovery-clause-others c = others_fresh c.args.world.now c.refresh_recovery.new.world c.args.a.0 c.refresh_recovery.ensures.changes

pub returns-in_err-refresh_plan-clause-others : goal.returns-in_err-refresh_plan-clause-others
returns-in_err-refresh_plan-clause-others c =
    others_fresh c.args.world.now c.refresh_plan.new.world c.args.a.0
    (changes_both c.args.world.now c.refresh_recovery.new.world c.refresh_plan.new.world c.args.a.0 c.refresh_recovery.ensures.changes c.refresh_plan.ensures.changes)

pub returns-clause-ok : goal.returns-clause-ok
returns-clause-ok c = on_ok_weaker c.refresh_oldest.result
    (λ oldest. fresh_after c.refresh_recovery.new.world c.refresh_plan.new.world c.refresh_oldest.new.world c.args.a.0 c.in_ok-refresh_recovery.ensures.ok c.refresh_plan.ensures.recovery c.in_ok-refresh_plan.ensures.ok c.refresh_oldest.ensures.changes.core
    c.refresh_oldest.ensures.recovery c.refresh_oldest.ensures.plan oldest) c.refresh_oldest.ensures.ok

pub returns-clause-others : goal.returns-clause-others
returns-clause-others c =
    others_fresh c.args.world.now c.refresh_oldest.new.world c.args.a.0
    (changes_both c.args.world.now c.refresh_plan.new.world c.refresh_oldest.new.world c.args.a.0
    (changes_both c.args.world.now c.refresh_recovery.new.world c.refresh_plan.new.world c.args.a.0 c.refresh_recovery.ensures.changes c.refresh_plan.ensures.changes) c.refresh_oldest.ensures.changes)
