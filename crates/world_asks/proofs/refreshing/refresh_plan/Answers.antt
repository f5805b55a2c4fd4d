-- The plan is kept, and nothing else has changed.
use Rattle.std.proofs.Common.{Some, is_some, refl, ap}
use Rattle.world_parties.specs.States.{IsPut}
use Rattle.world_parties.specs.declared.party.Party.{Party}
use Rattle.world_asks.proofs.BesideParties.{found, plan_put, put_changes, put_of, recovery_put}
use Rattle.world_asks.proofs.refreshing.refresh_plan.Goals as goal

pub returns-in_ok-plan-clause-changes : goal.returns-in_ok-plan-clause-changes
returns-in_ok-plan-clause-changes c =
    let change : Party → Party = λ (p : Party). record p { plan = Some c.in_ok-plan.plan } in
    let put : IsPut c.args.world.now.parties c.keep_plan.new.self.parties c.args.a.0 (change c.get.result.now) =
    put_of c.args.world.now c.keep_plan.new.self c.args.a.0 c.parties.result.now c.get.result.now change c.parties.ensures c.get.ensures.party c.keep_plan.ensures.put in
    put_changes c.args.world.now c.keep_plan.new.self c.args.a.0 (change c.get.result.now) put c.keep_plan.ensures.core

pub returns-in_ok-plan-clause-recovery : goal.returns-in_ok-plan-clause-recovery
returns-in_ok-plan-clause-recovery c =
    let change : Party → Party = λ (p : Party). record p { plan = Some c.in_ok-plan.plan } in
    let put : IsPut c.args.world.now.parties c.keep_plan.new.self.parties c.args.a.0 (change c.get.result.now) =
    put_of c.args.world.now c.keep_plan.new.self c.args.a.0 c.parties.result.now c.get.result.now change c.parties.ensures c.get.ensures.party c.keep_plan.ensures.put in
    recovery_put c.args.world.now c.keep_plan.new.self c.args.a.0 (change c.get.result.now) put c.get.result.now
    (found c.args.world.now c.args.a.0 c.parties.result.now c.get.result.now c.parties.ensures c.get.ensures.party) refl

pub returns-in_ok-plan-clause-ok : goal.returns-in_ok-plan-clause-ok
returns-in_ok-plan-clause-ok c =
    let change : Party → Party = λ (p : Party). record p { plan = Some c.in_ok-plan.plan } in
    let put : IsPut c.args.world.now.parties c.keep_plan.new.self.parties c.args.a.0 (change c.get.result.now) =
    put_of c.args.world.now c.keep_plan.new.self c.args.a.0 c.parties.result.now c.get.result.now change c.parties.ensures c.get.ensures.party c.keep_plan.ensures.put in
    λ wants. ap is_some (plan_put c.args.world.now c.keep_plan.new.self c.args.a.0 (change c.get.result.now) put)
