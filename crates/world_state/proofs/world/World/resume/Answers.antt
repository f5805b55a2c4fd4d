-- The server goes on, and its locks are given back.
use Rattle.std.proofs.Common.{◌≡◌, true, sym, subst, ap, ◌∙◌, refl}
use Rattle.core_definitions.specs.Servers.{is_in_mount}
use Rattle.core_definitions.specs.WriteEffects.{resumed}
use Rattle.world_state.specs.States.{State, core_at}
use Rattle.world_state.proofs.Guarding.{resumes_mounted, resumes_server}
use Rattle.world_state.proofs.Effects.{resumed_is}
use Rattle.world_state.proofs.Lasting.{parties_last}
use Rattle.world_state.proofs.world.World.resume.Goals as goal

pub resume-requires-clause-server : goal.resume-requires-clause-server
resume-requires-clause-server c = resumes_server (core_at c.args.self.now) c.args.a.0 c.requires

pub resume-requires-clause-mounted : goal.resume-requires-clause-mounted
resume-requires-clause-mounted c =
    let P : State → Type 0 = λ s. is_in_mount ((core_at s).servers c.args.a.0).phase ≡ true in
    subst P (sym c.self.view_is) (resumes_mounted (core_at c.args.self.now) c.args.a.0 c.requires)

pub invariant_of-self : goal.invariant_of-self
invariant_of-self c =
    let s : State = record { places = c.self.inside.places; run = c.self.inside.run; tick = c.self.inside.tick; parties = c.self.inside.parties; locks = c.self.inside.locks; flights = c.self.inside.flights; ticks = c.self.inside.ticks; over = c.self.inside.over } in
    parties_last s c.resume.new.self c.clear.new.self c.self.invariant c.resume.ensures.keeps (c.resume.ensures.becomes (core_at s).setting refl).stays.segments

pub returns : goal.returns
returns c =
    let s : State = record { places = c.self.inside.places; run = c.self.inside.run; tick = c.self.inside.tick; parties = c.self.inside.parties; locks = c.self.inside.locks; flights = c.self.inside.flights; ticks = c.self.inside.ticks; over = c.self.inside.over } in
    resumed_is s c.resume.new.self c.clear.new.self c.args.a.0 (c.resume.ensures.becomes (core_at s).setting refl) c.clear.ensures.locks ∙ ap (λ (s : State). resumed (core_at s) c.args.a.0) c.self.view_is
