-- The recovery is back as it has become.
use Rattle.std.proofs.Common.{◌≡◌, true, ap}
use Rattle.frang_base.specs.Functions.{member}
use Rattle.core_definitions.specs.EndEffects.{slot_loaded}
use Rattle.log_slots.specs.Reading.{unread_slots}
use Rattle.core_definitions.specs.Recoveries.{Recovery}
use Rattle.recovery_demon.specs.Recovering.{Recovering}
use Rattle.std.proofs.Common.{IsTrue}
use Rattle.world_parties.specs.States.{recovering_by, servers_at}
use Rattle.world_parties.proofs.Recovering.{ascend_same, back_keeps, back_with, fits_back, issued_same, none_keeps, of_core, of_taken}
use Rattle.world_parties.proofs.parties.Parties.load.Goals as goal

pub loaded-requires-clause-ready : goal.loaded-requires-clause-ready
loaded-requires-clause-ready c =
    of_taken (λ (r : Recovering). IsTrue r.is_ready) (recovering_by c.args.self.now c.args.by.0) c.take_recovery.result c.in-Some.demon c.take_recovery.ensures.is c.in-Some.is c.requires.ready

pub loaded-requires-clause-wanted : goal.loaded-requires-clause-wanted
loaded-requires-clause-wanted c =
    of_core (λ (r : Recovery). member c.args.slot (unread_slots r.slots) ≡ true) (servers_at c.args.self.now c.args.by.0).recovery c.take_recovery.result c.in-Some.demon c.take_recovery.ensures.core c.in-Some.is c.requires.wanted

pub set_recovery-requires-clause-fits : goal.set_recovery-requires-clause-fits
set_recovery-requires-clause-fits c =
    fits_back c.args.self.now.segments c.take_recovery.new.self.segments c.args.by.0 c.take_recovery.result c.in-Some.demon c.loaded.new.self c.take_recovery.ensures.gone.stays.segments c.in-Some.is
    c.take_recovery.ensures.fits c.loaded.ensures.segments (ap (λ r. r.dead) c.loaded.ensures.recovery) (ascend_same c.in-Some.demon c.loaded.new.self c.loaded.ensures.issued)

pub returns-in-Some-clause-becomes : goal.returns-in-Some-clause-becomes
returns-in-Some-clause-becomes c =
    back_with c.args.self.now c.take_recovery.new.self c.args.by.0 c.take_recovery.result c.take_recovery.ensures.core c.take_recovery.ensures.gone c.set_recovery.new.self
    (slot_loaded c.args.slot c.args.block.now) c.in-Some.demon c.loaded.new.self c.in-Some.is c.loaded.ensures.recovery c.set_recovery.ensures.becomes

pub returns-in-Some-clause-keeps : goal.returns-in-Some-clause-keeps
returns-in-Some-clause-keeps c =
    back_keeps c.args.self.now c.take_recovery.new.self c.set_recovery.new.self c.args.by.0 c.take_recovery.result c.in-Some.demon c.loaded.new.self c.take_recovery.ensures.is c.in-Some.is
    c.take_recovery.ensures.gone c.set_recovery.ensures.becomes c.take_recovery.ensures.rest c.set_recovery.ensures.rest c.set_recovery.ensures.is
    (issued_same c.in-Some.demon c.loaded.new.self c.loaded.ensures.issued)

pub returns-in_default-clause-keeps : goal.returns-in_default-clause-keeps
returns-in_default-clause-keeps c = none_keeps c.args.self.now c.take_recovery.new.self c.args.by.0 c.take_recovery.ensures.gone c.take_recovery.ensures.rest c.take_recovery.ensures.none
