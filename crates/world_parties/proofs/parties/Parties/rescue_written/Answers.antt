-- The recovery is back, and its write of the sector is acknowledged.
use Rattle.std.proofs.Common.{IsSome, IsTrue, refl, ap}
use Rattle.core_definitions.specs.WriteEffects.{acknowledged_for}
use Rattle.sector_bytes.specs.SectorMaps.{value_at}
use Rattle.recovery_demon.specs.Recovering.{Recovering}
use Rattle.world_parties.specs.States.{IsOfOther, recovering_by}
use Rattle.world_parties.proofs.Recovering.{ascend_gone, back_keeps, back_with, fits_back, gone_among, gone_at, none_keeps, of_taken}
use Rattle.world_parties.proofs.parties.Parties.rescue_written.Goals as goal

pub written-requires-clause-ready : goal.written-requires-clause-ready
written-requires-clause-ready c =
    of_taken (λ (r : Recovering). IsTrue r.is_ready) (recovering_by c.args.self.now c.args.by.0) c.take_recovery.result c.in-Some.demon c.take_recovery.ensures.is c.in-Some.is c.requires.ready

pub written-requires-clause-issued : goal.written-requires-clause-issued
written-requires-clause-issued c =
    of_taken (λ (r : Recovering). IsSome (value_at r.issued c.args.sector.0)) (recovering_by c.args.self.now c.args.by.0) c.take_recovery.result c.in-Some.demon c.take_recovery.ensures.is c.in-Some.is c.requires.issued

pub set_recovery-requires-clause-fits : goal.set_recovery-requires-clause-fits
set_recovery-requires-clause-fits c =
    fits_back c.args.self.now.segments c.take_recovery.new.self.segments c.args.by.0 c.take_recovery.result c.in-Some.demon c.written.new.self c.take_recovery.ensures.gone.stays.segments c.in-Some.is
    c.take_recovery.ensures.fits c.written.ensures.segments (ap (λ r. r.dead) c.written.ensures.recovery) (ascend_gone c.in-Some.demon c.written.new.self c.args.sector.0 c.written.ensures.issued)

pub returns-in-Some-clause-becomes : goal.returns-in-Some-clause-becomes
returns-in-Some-clause-becomes c =
    back_with c.args.self.now c.take_recovery.new.self c.args.by.0 c.take_recovery.result c.take_recovery.ensures.core c.take_recovery.ensures.gone c.set_recovery.new.self
    (acknowledged_for c.args.sector.0) c.in-Some.demon c.written.new.self c.in-Some.is c.written.ensures.recovery c.set_recovery.ensures.becomes

pub returns-in-Some-clause-keeps : goal.returns-in-Some-clause-keeps
returns-in-Some-clause-keeps c =
    back_keeps c.args.self.now c.take_recovery.new.self c.set_recovery.new.self c.args.by.0 c.take_recovery.result c.in-Some.demon c.written.new.self c.take_recovery.ensures.is c.in-Some.is
    c.take_recovery.ensures.gone c.set_recovery.ensures.becomes c.take_recovery.ensures.rest c.set_recovery.ensures.rest c.set_recovery.ensures.is
    (gone_among c.in-Some.demon c.written.new.self c.args.sector.0 c.written.ensures.issued (of_taken (IsOfOther c.args.self.now.segments c.args.by.0) c.take_recovery.result c.take_recovery.result c.in-Some.demon refl c.in-Some.is c.take_recovery.ensures.fits).issued)

pub returns-in-None-clause-keeps : goal.returns-in-None-clause-keeps
returns-in-None-clause-keeps c = none_keeps c.args.self.now c.take_recovery.new.self c.args.by.0 c.take_recovery.ensures.gone c.take_recovery.ensures.rest c.take_recovery.ensures.none

pub returns-in-Some-clause-gone : goal.returns-in-Some-clause-gone
returns-in-Some-clause-gone c =
    gone_at c.set_recovery.new.self c.args.by.0 c.args.sector.0 c.in-Some.demon c.written.new.self c.set_recovery.ensures.is c.written.ensures.issued
    (of_taken (IsOfOther c.args.self.now.segments c.args.by.0) c.take_recovery.result c.take_recovery.result c.in-Some.demon refl c.in-Some.is c.take_recovery.ensures.fits).issued
