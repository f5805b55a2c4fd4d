-- What is settled is what the core settles.
use Rattle.std.proofs.Common.{◌≡◌, true, sym, subst, ap, ◌∙◌}
use Rattle.core_definitions.specs.Servers.{is_in_mount}
use Rattle.core_definitions.specs.WriteEffects as core
use Rattle.core_definitions.specs.WriteEffects.{doomed}
use Rattle.server_core.specs.Phases.{fate_of}
use Rattle.world_state.specs.States.{State, core_at}
use Rattle.world_state.proofs.Effects.{doomed_is}
use Rattle.world_state.proofs.Lasting.{parties_last}
use Rattle.world_state.proofs.world.World.doom.Goals as goal

pub doom-requires-clause-mounted : goal.doom-requires-clause-mounted
doom-requires-clause-mounted c =
    let P : State → Type 0 = λ s. is_in_mount ((core_at s).servers c.args.a.0).phase ≡ true in
    subst P (sym c.self.view_is) c.requires.mounted

pub invariant_of-self : goal.invariant_of-self
invariant_of-self c =
    let s : State = record { places = c.self.inside.places; run = c.self.inside.run; tick = c.self.inside.tick; parties = c.self.inside.parties; locks = c.self.inside.locks; flights = c.self.inside.flights; ticks = c.self.inside.ticks; over = c.self.inside.over } in
    parties_last s c.doom.new.self c.self.inside.locks c.self.invariant c.doom.ensures.keeps c.doom.ensures.becomes.stays.segments

pub returns : goal.returns
returns c =
    let s : State = record { places = c.self.inside.places; run = c.self.inside.run; tick = c.self.inside.tick; parties = c.self.inside.parties; locks = c.self.inside.locks; flights = c.self.inside.flights; ticks = c.self.inside.ticks; over = c.self.inside.over } in
    doomed_is s c.doom.new.self c.args.a.0 (fate_of c.args.fate) c.doom.ensures.becomes (c.requires.fate ∙ ap (λ (s : State). core.fate_of (core_at s) c.args.a.0) (sym c.self.view_is))
    ∙ ap (λ (s : State). doomed (core_at s) c.args.a.0) c.self.view_is
