-- The stage that is read is the core's.
use Rattle.std.proofs.Common.{sym, ap, ◌∙◌, subst}
use Rattle.core_definitions.specs.Cores.{stage}
use Rattle.core_definitions.specs.Servers.{Server}
use Rattle.core_definitions.specs.Writes.{lacks_room}
use Rattle.log_slots.specs.Reading.{log_rules}
use Rattle.world_parties.specs.States.{State as Parties}
use Rattle.world_state.specs.States.{core_at}
use Rattle.world_asks.proofs.LineStages.{stage_as_read, up_mounted}
use Rattle.world_asks.proofs.PartyOf.{IsGot}
use Rattle.world_asks.proofs.refreshing.waits_for_room.Goals as goal

pub returns-then-is_up : goal.returns-then-is_up
returns-then-is_up c =
    let s = c.args.world.now in
    let a = c.args.a.0 in
    let party = c.get-party.result.now in
    let P : Parties → Type 0 = λ parties. IsGot parties a party in
    let got : IsGot s.parties a party = subst P c.parties.ensures
    (record { server = c.get-party.ensures.server; number = c.get-party.ensures.id; recovery = c.get-party.ensures.recovery; fits = c.get-party.ensures.fits; there = c.get-party.ensures.party; flags = c.get-party.ensures.flags; plan = c.get-party.ensures.plan; oldest = c.get-party.ensures.oldest }) in
    c.lacks_room.ensures (stage (core_at s) a)
    (stage_as_read s a party c.locks.result.now got c.locks.ensures c.stage_of-stage.result c.is_over-over.ensures.kept c.requires.plan c.stage_of-stage.ensures.is)
    (up_mounted party.server.server.phase (sym c.is_up.ensures ∙ c.if-is_up.true))
    ∙ ap (λ (server : Server). lacks_room log_rules server.ring (stage (core_at s) a)) got.server
