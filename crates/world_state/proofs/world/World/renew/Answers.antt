-- The server has its lease, and the locks the holds of it.
use Rattle.std.proofs.Common.{ap, ◌∙◌}
use Rattle.core_definitions.specs.WriteEffects.{renewed}
use Rattle.world_state.specs.States.{State, core_at}
use Rattle.world_state.proofs.Effects.{renewed_is}
use Rattle.world_state.proofs.Lasting.{parties_last}
use Rattle.world_state.proofs.world.World.renew.Goals as goal

pub invariant_of-self : goal.invariant_of-self
invariant_of-self c =
    let s : State = record { places = c.self.inside.places; run = c.self.inside.run; tick = c.self.inside.tick; parties = c.self.inside.parties; locks = c.self.inside.locks; flights = c.self.inside.flights; ticks = c.self.inside.ticks; over = c.self.inside.over } in
    parties_last s c.renew.new.self c.extend.new.self c.self.invariant c.renew.ensures.keeps c.renew.ensures.becomes.stays.segments

pub returns : goal.returns
returns c =
    let s : State = record { places = c.self.inside.places; run = c.self.inside.run; tick = c.self.inside.tick; parties = c.self.inside.parties; locks = c.self.inside.locks; flights = c.self.inside.flights; ticks = c.self.inside.ticks; over = c.self.inside.over } in
    renewed_is s c.renew.new.self c.extend.new.self c.args.a.0 c.renew.ensures.becomes c.extend.ensures.locks ∙ ap (λ (s : State). renewed (core_at s) c.args.a.0) c.self.view_is
