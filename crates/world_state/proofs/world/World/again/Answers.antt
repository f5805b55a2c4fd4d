-- The line goes on.
use Rattle.std.proofs.Common.{refl, sym, subst, ap, ◌∙◌}
use Rattle.core_definitions.specs.Cores.{with_server}
use Rattle.core_definitions.specs.Servers.{Server}
use Rattle.world_parties.specs.States.{PartyKeeps, recovery_in, server_of}
use Rattle.world_parties.specs.declared.party.Party.{Party}
use Rattle.world_parties.proofs.Flagging.{party_forgets, same_among}
use Rattle.world_state.specs.States.{State, core_at}
use Rattle.world_state.proofs.Planning.{again_beside, again_recovers, back_lasts, changed_is, fits_again}
use Rattle.core_definitions.specs.LineEffects.{again_by}
use Rattle.core_definitions.specs.Settings.{disk_logs}
use Rattle.line_stages.specs.Agains.{IsAgain}
use Rattle.world_state.proofs.world.World.again.Goals as goal

pub put-requires-clause-fits : goal.put-requires-clause-fits
put-requires-clause-fits c =
    fits_again c.self.inside.parties.segments c.take-taken.new.self.segments c.args.a.0 c.take-taken.result.recovery _ c.take-taken.ensures.fits c.take-taken.ensures.others.stays.segments (ap (λ (p : Party). p.recovery) c.forget.ensures)

pub invariant_of-self : goal.invariant_of-self
invariant_of-self c =
    let s : State = record { places = c.self.inside.places; run = c.self.inside.run; tick = c.self.inside.tick; parties = c.self.inside.parties; locks = c.self.inside.locks; flights = c.self.inside.flights; ticks = c.self.inside.ticks; over = c.self.inside.over } in
    back_lasts s c.take-taken.new.self c.put.new.self c.args.a.0 c.take-taken.result c.forget.new.self c.self.invariant c.take-taken.ensures.party c.take-taken.ensures.others c.put.ensures.keeps c.put.ensures.becomes
    (subst (PartyKeeps c.take-taken.result) (sym c.forget.ensures) (party_forgets c.take-taken.result _ (same_among c.go_on.new.server.flying c.take-taken.result.server.flying c.go_on.ensures.flying) refl refl refl))

pub returns : goal.returns
returns c at is =
    let s : State = record { places = c.self.inside.places; run = c.self.inside.run; tick = c.self.inside.tick; parties = c.self.inside.parties; locks = c.self.inside.locks; flights = c.self.inside.flights; ticks = c.self.inside.ticks; over = c.self.inside.over } in
    let P : State → Type 0 = λ s. IsAgain ((core_at s).servers c.args.a.0) at c.args.again in
    let Q : Server → Type 0 = λ server. IsAgain server at c.args.again in
    let there : IsAgain (server_of c.take-taken.result) at c.args.again = subst Q (sym c.take-taken.ensures.server) (subst P (sym c.self.view_is) is) in
    changed_is s c.put.new.self c.args.a.0 c.take-taken.result c.forget.new.self c.take-taken.ensures.server (c.put.ensures.becomes c.self.inside.parties c.take-taken.ensures.others) (again_by disk_logs at)
    (ap server_of c.forget.ensures ∙ ap (λ (x : Server). record x { recovery = recovery_in c.take-taken.result.recovery }) (c.go_on.ensures.server at (again_beside (server_of c.take-taken.result) c.take-taken.result.server.server at c.args.again refl there))
    ∙ again_recovers at c.take-taken.result.server.server (recovery_in c.take-taken.result.recovery))
    ∙ ap (λ (s : State). with_server (core_at s) c.args.a.0 (again_by disk_logs at ((core_at s).servers c.args.a.0))) c.self.view_is
