-- The sectors are kept, and nothing else has changed.
use Rattle.std.proofs.Common.{Some, is_some, refl, ap}
use Rattle.world_parties.specs.States.{IsPut}
use Rattle.world_parties.specs.declared.party.Party.{Party}
use Rattle.world_asks.proofs.BesideParties.{found, oldest_put, plan_stays, put_changes, put_of, recovery_put}
use Rattle.world_asks.proofs.refreshing.refresh_oldest.Goals as goal

pub returns-in_ok-oldest-clause-changes : goal.returns-in_ok-oldest-clause-changes
returns-in_ok-oldest-clause-changes c =
    let change : Party → Party = λ (p : Party). record p { oldest = Some c.in_ok-oldest.oldest } in
    let put : IsPut c.args.world.now.parties c.keep_oldest.new.self.parties c.args.a.0 (change c.get.result.now) =
    put_of c.args.world.now c.keep_oldest.new.self c.args.a.0 c.parties.result.now c.get.result.now change c.parties.ensures c.get.ensures.party c.keep_oldest.ensures.put in
    put_changes c.args.world.now c.keep_oldest.new.self c.args.a.0 (change c.get.result.now) put c.keep_oldest.ensures.core

pub returns-in_ok-oldest-clause-recovery : goal.returns-in_ok-oldest-clause-recovery
returns-in_ok-oldest-clause-recovery c =
    let change : Party → Party = λ (p : Party). record p { oldest = Some c.in_ok-oldest.oldest } in
    let put : IsPut c.args.world.now.parties c.keep_oldest.new.self.parties c.args.a.0 (change c.get.result.now) =
    put_of c.args.world.now c.keep_oldest.new.self c.args.a.0 c.parties.result.now c.get.result.now change c.parties.ensures c.get.ensures.party c.keep_oldest.ensures.put in
    recovery_put c.args.world.now c.keep_oldest.new.self c.args.a.0 (change c.get.result.now) put c.get.result.now
    (found c.args.world.now c.args.a.0 c.parties.result.now c.get.result.now c.parties.ensures c.get.ensures.party) refl

pub returns-in_ok-oldest-clause-plan : goal.returns-in_ok-oldest-clause-plan
returns-in_ok-oldest-clause-plan c =
    let change : Party → Party = λ (p : Party). record p { oldest = Some c.in_ok-oldest.oldest } in
    let put : IsPut c.args.world.now.parties c.keep_oldest.new.self.parties c.args.a.0 (change c.get.result.now) =
    put_of c.args.world.now c.keep_oldest.new.self c.args.a.0 c.parties.result.now c.get.result.now change c.parties.ensures c.get.ensures.party c.keep_oldest.ensures.put in
    plan_stays c.args.world.now c.keep_oldest.new.self c.args.a.0 (change c.get.result.now) put c.get.result.now
    (found c.args.world.now c.args.a.0 c.parties.result.now c.get.result.now c.parties.ensures c.get.ensures.party) refl

pub returns-in_ok-oldest-clause-ok : goal.returns-in_ok-oldest-clause-ok
returns-in_ok-oldest-clause-ok c =
    let change : Party → Party = λ (p : Party). record p { oldest = Some c.in_ok-oldest.oldest } in
    let put : IsPut c.args.world.now.parties c.keep_oldest.new.self.parties c.args.a.0 (change c.get.result.now) =
    put_of c.args.world.now c.keep_oldest.new.self c.args.a.0 c.parties.result.now c.get.result.now change c.parties.ensures c.get.ensures.party c.keep_oldest.ensures.put in
    λ lacks. ap is_some (oldest_put c.args.world.now c.keep_oldest.new.self c.args.a.0 (change c.get.result.now) put)
