-- One more server is fresh, and at last the host.
use Rattle.std.proofs.Common.{arith, below_more, ◌∙◌}
use Rattle.std.proofs.lemmas.Result.{on_ok_weaker}
use Rattle.world_asks.specs.Fresh.{IsFreshAt}
use Rattle.world_asks.proofs.BesideParties.{all_fresh}
use Rattle.world_asks.proofs.refreshing.refresh_all.Goals as goal

pub returns-in_err-refresh-clause-core : goal.returns-in_err-refresh-clause-core
returns-in_err-refresh-clause-core c = c.refresh.ensures.core ∙ c.loop-a.invariant.core

pub loop-a-preserved : goal.loop-a-preserved
loop-a-preserved c = record {
  core = c.refresh.ensures.core ∙ c.loop-a.invariant.core;
  fresh = below_more (λ b. IsFreshAt c.refresh.new.world b) c.loop-a.a (λ b below. c.refresh.ensures.others b (λ same. absurd (omega arith)) (c.loop-a.invariant.fresh b below)) c.in_ok-refresh.ensures.ok;
}

pub returns-clause-core : goal.returns-clause-core
returns-clause-core c = c.refresh_recovery.ensures.changes.core ∙ c.loop-a.invariant.core

pub returns-clause-ok : goal.returns-clause-ok
returns-clause-ok c = on_ok_weaker c.refresh_recovery.result
    (λ fresh. all_fresh c.loop-a.world c.refresh_recovery.new.world c.loop-a.a (omega arith) c.refresh_recovery.ensures.changes fresh c.loop-a.invariant.fresh) c.refresh_recovery.ensures.ok
