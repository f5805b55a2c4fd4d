-- The server wants everything written.
use Rattle.std.proofs.Common.{ap, ◌∙◌}
use Rattle.core_definitions.specs.Cores.{clean_at}
use Rattle.core_definitions.specs.EndEffects.{closed}
use Rattle.world_state.specs.States.{State, core_at}
use Rattle.world_state.proofs.Effects.{wanting_is}
use Rattle.world_state.proofs.Lasting.{parties_last}
use Rattle.world_state.proofs.world.World.want_all.Goals as goal

pub invariant_of-self : goal.invariant_of-self
invariant_of-self c =
    let s : State = record { places = c.self.inside.places; run = c.self.inside.run; tick = c.self.inside.tick; parties = c.self.inside.parties; locks = c.self.inside.locks; flights = c.self.inside.flights; ticks = c.self.inside.ticks; over = c.self.inside.over } in
    parties_last s c.want_all.new.self c.self.inside.locks c.self.invariant c.want_all.ensures.keeps c.want_all.ensures.becomes.stays.segments

pub returns : goal.returns
returns c =
    let s : State = record { places = c.self.inside.places; run = c.self.inside.run; tick = c.self.inside.tick; parties = c.self.inside.parties; locks = c.self.inside.locks; flights = c.self.inside.flights; ticks = c.self.inside.ticks; over = c.self.inside.over } in
    wanting_is s c.want_all.new.self c.args.a.0 c.want_all.ensures.becomes (ap (λ (s : State). clean_at (core_at s) c.args.a.0) c.self.view_is ∙ c.requires.dirty)
    ∙ ap (λ (s : State). closed (core_at s) c.args.a.0) c.self.view_is
