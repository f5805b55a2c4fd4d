-- The recovery is back as it has become.
use Rattle.std.proofs.Common.{◌≡◌, ℕ, true, refl, sym, subst, ap}
use Rattle.frang_base.specs.Functions.{member}
use Rattle.sector_bytes.specs.SectorMaps.{with_value}
use Rattle.recovery_demon.specs.Recovering.{wanted_over}
use Rattle.recovery_demon.specs.Recovering.{looks_wanted}
use Rattle.core_definitions.specs.Recoveries.{Recovery}
use Rattle.recovery_demon.specs.Recovering.{Recovering}
use Rattle.std.proofs.Common.{IsTrue}
use Rattle.world_parties.specs.States.{IsOfOther, recovering_by, servers_at}
use Rattle.world_parties.proofs.Recovering.{ascend_same, back_keeps, back_with, fits_back, issued_same, none_keeps, of_core, of_taken}
use Rattle.world_parties.proofs.parties.Parties.look.Goals as goal

pub looked-requires-clause-ready : goal.looked-requires-clause-ready
looked-requires-clause-ready c =
    of_taken (λ (r : Recovering). IsTrue r.is_ready) (recovering_by c.args.self.now c.args.by.0) c.take_recovery.result c.in-Some.demon c.take_recovery.ensures.is c.in-Some.is c.requires.ready

pub looked-requires-clause-wanted : goal.looked-requires-clause-wanted
looked-requires-clause-wanted c =
    let P : ℕ → Type 0 = λ n. member c.args.sector.0 (looks_wanted n c.in-Some.demon.recovery) ≡ true in
    subst P (sym (of_taken (IsOfOther c.args.self.now.segments c.args.by.0) c.take_recovery.result c.take_recovery.result c.in-Some.demon refl c.in-Some.is c.take_recovery.ensures.fits).disk)
    (of_core (λ (r : Recovery). member c.args.sector.0 (looks_wanted c.args.self.now.segments r) ≡ true) (servers_at c.args.self.now c.args.by.0).recovery c.take_recovery.result c.in-Some.demon c.take_recovery.ensures.core c.in-Some.is c.requires.wanted)

pub set_recovery-requires-clause-fits : goal.set_recovery-requires-clause-fits
set_recovery-requires-clause-fits c =
    fits_back c.args.self.now.segments c.take_recovery.new.self.segments c.args.by.0 c.take_recovery.result c.in-Some.demon c.looked.new.self c.take_recovery.ensures.gone.stays.segments c.in-Some.is
    c.take_recovery.ensures.fits c.looked.ensures.segments (ap (λ r. r.dead) c.looked.ensures.recovery) (ascend_same c.in-Some.demon c.looked.new.self c.looked.ensures.issued)

pub returns-in-Some-clause-becomes : goal.returns-in-Some-clause-becomes
returns-in-Some-clause-becomes c =
    back_with c.args.self.now c.take_recovery.new.self c.args.by.0 c.take_recovery.result c.take_recovery.ensures.core c.take_recovery.ensures.gone c.set_recovery.new.self
    (λ (r : Recovery). record r { looked = with_value r.looked c.args.sector.0 (wanted_over r c.args.sector.0 c.args.block.now) }) c.in-Some.demon c.looked.new.self c.in-Some.is c.looked.ensures.recovery c.set_recovery.ensures.becomes

pub returns-in-Some-clause-keeps : goal.returns-in-Some-clause-keeps
returns-in-Some-clause-keeps c =
    back_keeps c.args.self.now c.take_recovery.new.self c.set_recovery.new.self c.args.by.0 c.take_recovery.result c.in-Some.demon c.looked.new.self c.take_recovery.ensures.is c.in-Some.is
    c.take_recovery.ensures.gone c.set_recovery.ensures.becomes c.take_recovery.ensures.rest c.set_recovery.ensures.rest c.set_recovery.ensures.is
    (issued_same c.in-Some.demon c.looked.new.self c.looked.ensures.issued)

pub returns-in_default-clause-keeps : goal.returns-in_default-clause-keeps
returns-in_default-clause-keeps c = none_keeps c.args.self.now c.take_recovery.new.self c.args.by.0 c.take_recovery.ensures.gone c.take_recovery.ensures.rest c.take_recovery.ensures.none
