-- The recovery is back, and the core knows nothing of it.
use Rattle.std.proofs.Common.{Option, IfSome, IsTrue, sym, subst, ap}
use Rattle.std.proofs.lemmas.Result.{on_ok_weaker}
use Rattle.recovery_demon.specs.Recovering.{Recovering}
use Rattle.world_parties.proofs.Recovering.{ascend_same, back_keeps, back_same, fits_back, issued_same, none_keeps, none_same, rest}
use Rattle.world_parties.proofs.parties.Parties.refresh.Goals as goal

pub set_recovery-requires-clause-fits : goal.set_recovery-requires-clause-fits
set_recovery-requires-clause-fits c =
    fits_back c.args.self.now.segments c.take_recovery.new.self.segments c.args.by.0 c.take_recovery.result c.in-Some.demon c.refresh-made.new.self c.take_recovery.ensures.gone.stays.segments c.in-Some.is
    c.take_recovery.ensures.fits c.refresh-made.ensures.segments (ap (λ r. r.dead) c.refresh-made.ensures.same) (ascend_same c.in-Some.demon c.refresh-made.new.self c.refresh-made.ensures.issued)

pub returns-in-Some-clause-same : goal.returns-in-Some-clause-same
returns-in-Some-clause-same c =
    back_same c.args.self.now c.take_recovery.new.self c.args.by.0 c.take_recovery.result c.take_recovery.ensures.core c.take_recovery.ensures.gone c.set_recovery.new.self c.in-Some.demon c.refresh-made.new.self c.in-Some.is
    c.refresh-made.ensures.same c.set_recovery.ensures.becomes

pub returns-in-None-clause-same : goal.returns-in-None-clause-same
returns-in-None-clause-same c =
    none_same c.args.self.now c.take_recovery.new.self c.args.by.0 c.take_recovery.result c.take_recovery.ensures.core c.take_recovery.ensures.gone c.in-None.is

pub returns-in-Some-clause-ok : goal.returns-in-Some-clause-ok
returns-in-Some-clause-ok c =
    let P : Option Recovering → Type 0 = λ o. IfSome o (λ r. IsTrue r.is_fresh) in
    on_ok_weaker c.refresh-made.result (λ is. subst P (sym c.set_recovery.ensures.is) is) c.refresh-made.ensures.ok

pub returns-in-None-clause-ok : goal.returns-in-None-clause-ok
returns-in-None-clause-ok c =
    let P : Option Recovering → Type 0 = λ o. IfSome o (λ r. IsTrue r.is_fresh) in
    subst P (sym c.take_recovery.ensures.none) tt

pub returns-in-Some-clause-keeps : goal.returns-in-Some-clause-keeps
returns-in-Some-clause-keeps c =
    back_keeps c.args.self.now c.take_recovery.new.self c.set_recovery.new.self c.args.by.0 c.take_recovery.result c.in-Some.demon c.refresh-made.new.self c.take_recovery.ensures.is c.in-Some.is
    c.take_recovery.ensures.gone c.set_recovery.ensures.becomes c.take_recovery.ensures.rest c.set_recovery.ensures.rest c.set_recovery.ensures.is
    (issued_same c.in-Some.demon c.refresh-made.new.self c.refresh-made.ensures.issued)

pub returns-in-None-clause-keeps : goal.returns-in-None-clause-keeps
returns-in-None-clause-keeps c = none_keeps c.args.self.now c.take_recovery.new.self c.args.by.0 c.take_recovery.ensures.gone c.take_recovery.ensures.rest c.take_recovery.ensures.none

pub returns-in-Some-clause-rest : goal.returns-in-Some-clause-rest
returns-in-Some-clause-rest c = rest c.args.self.now c.take_recovery.new.self c.set_recovery.new.self c.args.by.0 c.take_recovery.result c.in-Some.demon c.refresh-made.new.self c.take_recovery.ensures.is c.in-Some.is
    c.take_recovery.ensures.gone c.set_recovery.ensures.becomes c.take_recovery.ensures.rest c.set_recovery.ensures.rest c.set_recovery.ensures.is
