-- The recovery is back, and no write of the sector is issued of it.
use Rattle.std.proofs.Common.{IsTrue, refl, ap}
use Rattle.recovery_demon.specs.Recovering.{Recovering}
use Rattle.world_parties.specs.States.{IsOfOther, recovering_by}
use Rattle.world_parties.proofs.Recovering.{ascend_gone, back_keeps, back_same, fits_back, gone_among, gone_at, none_keeps, none_same, of_taken}
use Rattle.world_parties.proofs.parties.Parties.rescue_lost.Goals as goal

pub lose_issued-requires : goal.lose_issued-requires
lose_issued-requires c =
    of_taken (λ (r : Recovering). IsTrue r.is_ready) (recovering_by c.args.self.now c.args.by.0) c.take_recovery.result c.in-Some.demon c.take_recovery.ensures.is c.in-Some.is c.requires.ready

pub set_recovery-requires-clause-fits : goal.set_recovery-requires-clause-fits
set_recovery-requires-clause-fits c =
    fits_back c.args.self.now.segments c.take_recovery.new.self.segments c.args.by.0 c.take_recovery.result c.in-Some.demon c.lose_issued.new.demon c.take_recovery.ensures.gone.stays.segments c.in-Some.is
    c.take_recovery.ensures.fits c.lose_issued.ensures.segments (ap (λ r. r.dead) c.lose_issued.ensures.recovery) (ascend_gone c.in-Some.demon c.lose_issued.new.demon c.args.sector.0 c.lose_issued.ensures.issued)

pub returns-in-Some-clause-same : goal.returns-in-Some-clause-same
returns-in-Some-clause-same c =
    back_same c.args.self.now c.take_recovery.new.self c.args.by.0 c.take_recovery.result c.take_recovery.ensures.core c.take_recovery.ensures.gone c.set_recovery.new.self c.in-Some.demon c.lose_issued.new.demon c.in-Some.is
    c.lose_issued.ensures.recovery c.set_recovery.ensures.becomes

pub returns-in-None-clause-same : goal.returns-in-None-clause-same
returns-in-None-clause-same c =
    none_same c.args.self.now c.take_recovery.new.self c.args.by.0 c.take_recovery.result c.take_recovery.ensures.core c.take_recovery.ensures.gone c.in-None.is

pub returns-in-Some-clause-keeps : goal.returns-in-Some-clause-keeps
returns-in-Some-clause-keeps c =
    back_keeps c.args.self.now c.take_recovery.new.self c.set_recovery.new.self c.args.by.0 c.take_recovery.result c.in-Some.demon c.lose_issued.new.demon c.take_recovery.ensures.is c.in-Some.is
    c.take_recovery.ensures.gone c.set_recovery.ensures.becomes c.take_recovery.ensures.rest c.set_recovery.ensures.rest c.set_recovery.ensures.is
    (gone_among c.in-Some.demon c.lose_issued.new.demon c.args.sector.0 c.lose_issued.ensures.issued (of_taken (IsOfOther c.args.self.now.segments c.args.by.0) c.take_recovery.result c.take_recovery.result c.in-Some.demon refl c.in-Some.is c.take_recovery.ensures.fits).issued)

pub returns-in-None-clause-keeps : goal.returns-in-None-clause-keeps
returns-in-None-clause-keeps c = none_keeps c.args.self.now c.take_recovery.new.self c.args.by.0 c.take_recovery.ensures.gone c.take_recovery.ensures.rest c.take_recovery.ensures.none

pub returns-in-Some-clause-gone : goal.returns-in-Some-clause-gone
returns-in-Some-clause-gone c =
    gone_at c.set_recovery.new.self c.args.by.0 c.args.sector.0 c.in-Some.demon c.lose_issued.new.demon c.set_recovery.ensures.is c.lose_issued.ensures.issued
    (of_taken (IsOfOther c.args.self.now.segments c.args.by.0) c.take_recovery.result c.take_recovery.result c.in-Some.demon refl c.in-Some.is c.take_recovery.ensures.fits).issued
