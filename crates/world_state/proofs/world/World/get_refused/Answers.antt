-- The refusal is kept with the line.
use Rattle.std.proofs.Common.{refl, sym, subst, ap, ◌∙◌}
use Rattle.core_definitions.specs.Cores.{with_server}
use Rattle.core_definitions.specs.Servers.{Server}
use Rattle.world_parties.specs.States.{PartyKeeps, recovery_in, server_of}
use Rattle.world_parties.specs.declared.party.Party.{Party}
use Rattle.world_parties.proofs.Flagging.{party_forgets, same_among}
use Rattle.world_state.specs.States.{State, core_at}
use Rattle.world_state.proofs.Planning.{back_lasts, changed_is, fits_again}
use Rattle.core_definitions.specs.LineEffects.{refused_under, with_under}
use Rattle.world_state.proofs.world.World.get_refused.Goals as goal

pub put-requires-clause-fits : goal.put-requires-clause-fits
put-requires-clause-fits c =
    fits_again c.self.inside.parties.segments c.take-party.new.self.segments c.args.a.0 c.take-party.result.recovery _ c.take-party.ensures.fits c.take-party.ensures.others.stays.segments (ap (λ (p : Party). p.recovery) c.forget.ensures)

pub invariant_of-self : goal.invariant_of-self
invariant_of-self c =
    let s : State = record { places = c.self.inside.places; run = c.self.inside.run; tick = c.self.inside.tick; parties = c.self.inside.parties; locks = c.self.inside.locks; flights = c.self.inside.flights; ticks = c.self.inside.ticks; over = c.self.inside.over } in
    back_lasts s c.take-party.new.self c.put.new.self c.args.a.0 c.take-party.result c.forget.new.self c.self.invariant c.take-party.ensures.party c.take-party.ensures.others c.put.ensures.keeps c.put.ensures.becomes
    (subst (PartyKeeps c.take-party.result) (sym c.forget.ensures) (party_forgets c.take-party.result _ (same_among c.get_refused.new.self.flying c.take-party.result.server.flying c.get_refused.ensures.flying) refl refl refl))

pub returns : goal.returns
returns c =
    let s : State = record { places = c.self.inside.places; run = c.self.inside.run; tick = c.self.inside.tick; parties = c.self.inside.parties; locks = c.self.inside.locks; flights = c.self.inside.flights; ticks = c.self.inside.ticks; over = c.self.inside.over } in
    changed_is s c.put.new.self c.args.a.0 c.take-party.result c.forget.new.self c.take-party.ensures.server (c.put.ensures.becomes c.self.inside.parties c.take-party.ensures.others) (λ server. with_under server refused_under)
    (ap server_of c.forget.ensures ∙ ap (λ (x : Server). record x { recovery = recovery_in c.take-party.result.recovery }) c.get_refused.ensures.server)
    ∙ ap (λ (s : State). with_server (core_at s) c.args.a.0 ((λ (server : Server). with_under server refused_under) ((core_at s).servers c.args.a.0))) c.self.view_is
