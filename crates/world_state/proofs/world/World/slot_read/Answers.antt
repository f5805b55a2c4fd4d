-- The slot is read.
use Rattle.std.proofs.Common.{◌<◌, refl, sym, subst, ap, ◌∙◌}
use Rattle.core_definitions.specs.Cores.{with_server}
use Rattle.core_definitions.specs.Servers.{Server}
use Rattle.world_parties.specs.States.{PartyKeeps, recovery_in, server_of}
use Rattle.world_parties.specs.declared.party.Party.{Party}
use Rattle.world_parties.proofs.Flagging.{party_forgets, same_among}
use Rattle.server_core.specs.Effects.{IsSlot}
use Rattle.world_state.specs.Rooms.{HasSlotRoom}
use Rattle.world_state.specs.States.{State, core_at}
use Rattle.world_state.proofs.Planning.{back_lasts, changed_is, fits_again, party_has}
use Rattle.core_definitions.specs.LineEffects.{slot_read, with_under}
use Rattle.world_state.proofs.world.World.slot_read.Goals as goal

pub slot_read-requires-clause-slot : goal.slot_read-requires-clause-slot
slot_read-requires-clause-slot c = subst (λ n. IsSlot n c.args.sector.0) (sym c.take-party.ensures.id) c.requires.slot

pub slot_read-requires-clause-room : goal.slot_read-requires-clause-room
slot_read-requires-clause-room c = party_has c.self.inside.parties c.args.a.0 c.take-party.result (λ party. 0 < party.server.slots) c.take-party.ensures.party (let Q : State → Type 0 = λ s. HasSlotRoom s c.args.a.0 in subst Q (sym c.self.view_is) c.requires.room)

pub put-requires-clause-fits : goal.put-requires-clause-fits
put-requires-clause-fits c =
    fits_again c.self.inside.parties.segments c.take-party.new.self.segments c.args.a.0 c.take-party.result.recovery _ c.take-party.ensures.fits c.take-party.ensures.others.stays.segments (ap (λ (p : Party). p.recovery) c.forget.ensures)

pub invariant_of-self : goal.invariant_of-self
invariant_of-self c =
    let s : State = record { places = c.self.inside.places; run = c.self.inside.run; tick = c.self.inside.tick; parties = c.self.inside.parties; locks = c.self.inside.locks; flights = c.self.inside.flights; ticks = c.self.inside.ticks; over = c.self.inside.over } in
    back_lasts s c.take-party.new.self c.put.new.self c.args.a.0 c.take-party.result c.forget.new.self c.self.invariant c.take-party.ensures.party c.take-party.ensures.others c.put.ensures.keeps c.put.ensures.becomes
    (subst (PartyKeeps c.take-party.result) (sym c.forget.ensures) (party_forgets c.take-party.result _ (same_among c.slot_read.new.self.flying c.take-party.result.server.flying c.slot_read.ensures.flying) refl refl refl))

pub returns : goal.returns
returns c =
    let s : State = record { places = c.self.inside.places; run = c.self.inside.run; tick = c.self.inside.tick; parties = c.self.inside.parties; locks = c.self.inside.locks; flights = c.self.inside.flights; ticks = c.self.inside.ticks; over = c.self.inside.over } in
    changed_is s c.put.new.self c.args.a.0 c.take-party.result c.forget.new.self c.take-party.ensures.server (c.put.ensures.becomes c.self.inside.parties c.take-party.ensures.others) (λ server. with_under server (slot_read c.args.a.0 c.args.sector.0 c.args.block.now))
    (ap server_of c.forget.ensures ∙ ap (λ (x : Server). record x { recovery = recovery_in c.take-party.result.recovery }) c.slot_read.ensures.server
    ∙ ap (λ n. with_under (server_of c.take-party.result) (slot_read n c.args.sector.0 c.args.block.now)) c.take-party.ensures.id)
    ∙ ap (λ (s : State). with_server (core_at s) c.args.a.0 ((λ (server : Server). with_under server (slot_read c.args.a.0 c.args.sector.0 c.args.block.now)) ((core_at s).servers c.args.a.0))) c.self.view_is
