-- The zeros are wanted.
use Rattle.std.proofs.Common.{◌≤◌, refl, sym, subst, ap, ◌∙◌}
use Rattle.core_definitions.specs.Cores.{with_server}
use Rattle.core_definitions.specs.Servers.{Server}
use Rattle.world_parties.specs.States.{PartyKeeps, recovery_in, server_of}
use Rattle.world_parties.specs.declared.party.Party.{Party}
use Rattle.world_parties.proofs.Flagging.{party_forgets, same_among}
use Rattle.frang_base.specs.declared.limits.TheConstants.{SMALL_BLOCK_SECTORS}
use Rattle.world_state.specs.Rooms.{HasClearRoom}
use Rattle.world_state.specs.States.{State, core_at}
use Rattle.world_state.proofs.Planning.{back_lasts, changed_is, fits_again, party_has}
use Rattle.core_definitions.specs.LineEffects.{cleared_at}
use Rattle.world_state.proofs.world.World.clear.Goals as goal

pub clear-requires-clause-cached : goal.clear-requires-clause-cached
clear-requires-clause-cached c = (party_has c.self.inside.parties c.args.a.0 c.take-party.result (λ party. (SMALL_BLOCK_SECTORS ≤ party.server.spare) × (SMALL_BLOCK_SECTORS ≤ party.server.zeros)) c.take-party.ensures.party (let Q : State → Type 0 = λ s. HasClearRoom s c.args.a.0 in subst Q (sym c.self.view_is) c.requires.room)).0

pub clear-requires-clause-pending : goal.clear-requires-clause-pending
clear-requires-clause-pending c = (party_has c.self.inside.parties c.args.a.0 c.take-party.result (λ party. (SMALL_BLOCK_SECTORS ≤ party.server.spare) × (SMALL_BLOCK_SECTORS ≤ party.server.zeros)) c.take-party.ensures.party (let Q : State → Type 0 = λ s. HasClearRoom s c.args.a.0 in subst Q (sym c.self.view_is) c.requires.room)).1

pub put-requires-clause-fits : goal.put-requires-clause-fits
put-requires-clause-fits c =
    fits_again c.self.inside.parties.segments c.take-party.new.self.segments c.args.a.0 c.take-party.result.recovery _ c.take-party.ensures.fits c.take-party.ensures.others.stays.segments (ap (λ (p : Party). p.recovery) c.forget.ensures)

pub invariant_of-self : goal.invariant_of-self
invariant_of-self c =
    let s : State = record { places = c.self.inside.places; run = c.self.inside.run; tick = c.self.inside.tick; parties = c.self.inside.parties; locks = c.self.inside.locks; flights = c.self.inside.flights; ticks = c.self.inside.ticks; over = c.self.inside.over } in
    back_lasts s c.take-party.new.self c.put.new.self c.args.a.0 c.take-party.result c.forget.new.self c.self.invariant c.take-party.ensures.party c.take-party.ensures.others c.put.ensures.keeps c.put.ensures.becomes
    (subst (PartyKeeps c.take-party.result) (sym c.forget.ensures) (party_forgets c.take-party.result _ (same_among c.clear.new.self.flying c.take-party.result.server.flying c.clear.ensures.flying) refl refl refl))

pub returns : goal.returns
returns c =
    let s : State = record { places = c.self.inside.places; run = c.self.inside.run; tick = c.self.inside.tick; parties = c.self.inside.parties; locks = c.self.inside.locks; flights = c.self.inside.flights; ticks = c.self.inside.ticks; over = c.self.inside.over } in
    changed_is s c.put.new.self c.args.a.0 c.take-party.result c.forget.new.self c.take-party.ensures.server (c.put.ensures.becomes c.self.inside.parties c.take-party.ensures.others) (λ server. cleared_at c.args.block server)
    (ap server_of c.forget.ensures ∙ ap (λ (x : Server). record x { recovery = recovery_in c.take-party.result.recovery }) c.clear.ensures.server)
    ∙ ap (λ (s : State). with_server (core_at s) c.args.a.0 ((λ (server : Server). cleared_at c.args.block server) ((core_at s).servers c.args.a.0))) c.self.view_is
