-- The recovery is back, and its write of the sector is issued.
use Rattle.std.proofs.Common.{IsSome, IsTrue, ap}
use Rattle.sector_bytes.specs.SectorMaps.{value_at}
use Rattle.recovery_demon.specs.Recovering.{Recovering, writes_wanted}
use Rattle.world_parties.specs.States.{recovering_by}
use Rattle.world_parties.proofs.Recovering.{ascend_more, back_keeps_but, back_same, fits_back, more_among, none_same, none_there, of_some, of_taken}
use Rattle.world_parties.proofs.parties.Parties.rescue_issued.Goals as goal

pub issued-requires-clause-ready : goal.issued-requires-clause-ready
issued-requires-clause-ready c =
    of_taken (λ (r : Recovering). IsTrue r.is_ready) (recovering_by c.args.self.now c.args.by.0) c.take_recovery.result c.in-Some.demon c.take_recovery.ensures.is c.in-Some.is c.requires.ready

pub issued-requires-clause-wanted : goal.issued-requires-clause-wanted
issued-requires-clause-wanted c =
    of_some (λ (r : Recovering). IsSome (value_at (writes_wanted r.segments r.recovery r.issued) c.args.sector.0)) (recovering_by c.args.self.now c.args.by.0) c.take_recovery.result c.in-Some.demon c.take_recovery.ensures.is c.in-Some.is c.requires.wanted

pub set_recovery-requires-clause-fits : goal.set_recovery-requires-clause-fits
set_recovery-requires-clause-fits c =
    fits_back c.args.self.now.segments c.take_recovery.new.self.segments c.args.by.0 c.take_recovery.result c.in-Some.demon c.issued.new.self c.take_recovery.ensures.gone.stays.segments c.in-Some.is
    c.take_recovery.ensures.fits c.issued.ensures.segments (ap (λ r. r.dead) c.issued.ensures.recovery) (ascend_more c.in-Some.demon c.issued.new.self c.args.sector.0 (value_at (writes_wanted c.in-Some.demon.segments c.in-Some.demon.recovery c.in-Some.demon.issued) c.args.sector.0)
    (of_some (λ (r : Recovering). IsSome (value_at (writes_wanted r.segments r.recovery r.issued) c.args.sector.0)) (recovering_by c.args.self.now c.args.by.0) c.take_recovery.result c.in-Some.demon c.take_recovery.ensures.is c.in-Some.is c.requires.wanted) c.issued.ensures.issued)

pub returns-in-Some-clause-same : goal.returns-in-Some-clause-same
returns-in-Some-clause-same c =
    back_same c.args.self.now c.take_recovery.new.self c.args.by.0 c.take_recovery.result c.take_recovery.ensures.core c.take_recovery.ensures.gone c.set_recovery.new.self c.in-Some.demon c.issued.new.self c.in-Some.is
    c.issued.ensures.recovery c.set_recovery.ensures.becomes

pub returns-in-None-clause-same : goal.returns-in-None-clause-same
returns-in-None-clause-same c =
    none_same c.args.self.now c.take_recovery.new.self c.args.by.0 c.take_recovery.result c.take_recovery.ensures.core c.take_recovery.ensures.gone c.in-None.is

pub returns-in-Some-clause-keeps : goal.returns-in-Some-clause-keeps
returns-in-Some-clause-keeps c =
    back_keeps_but c.args.self.now c.take_recovery.new.self c.set_recovery.new.self c.args.by.0 c.take_recovery.result c.in-Some.demon c.issued.new.self c.take_recovery.ensures.is c.in-Some.is
    c.take_recovery.ensures.gone c.set_recovery.ensures.becomes c.take_recovery.ensures.rest c.set_recovery.ensures.rest c.set_recovery.ensures.is c.args.sector.0
    (more_among c.in-Some.demon c.issued.new.self c.args.sector.0 (value_at (writes_wanted c.in-Some.demon.segments c.in-Some.demon.recovery c.in-Some.demon.issued) c.args.sector.0)
    (of_some (λ (r : Recovering). IsSome (value_at (writes_wanted r.segments r.recovery r.issued) c.args.sector.0)) (recovering_by c.args.self.now c.args.by.0) c.take_recovery.result c.in-Some.demon c.take_recovery.ensures.is c.in-Some.is c.requires.wanted) c.issued.ensures.issued)

pub returns-in-None-clause-keeps : goal.returns-in-None-clause-keeps
returns-in-None-clause-keeps c = absurd (none_there (λ (r : Recovering). IsSome (value_at (writes_wanted r.segments r.recovery r.issued) c.args.sector.0)) (recovering_by c.args.self.now c.args.by.0) c.take_recovery.result c.take_recovery.ensures.is c.in-None.is c.requires.wanted)
