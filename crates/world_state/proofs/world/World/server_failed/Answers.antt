-- The call counts for the server.
use Rattle.std.proofs.Common.{ap, ◌∙◌}
use Rattle.core_definitions.specs.LineEffects.{call_failed}
use Rattle.world_state.specs.States.{State, core_at}
use Rattle.world_state.proofs.Effects.{failed_is}
use Rattle.world_state.proofs.Lasting.{parties_last}
use Rattle.world_state.proofs.world.World.server_failed.Goals as goal

pub invariant_of-self : goal.invariant_of-self
invariant_of-self c =
    let s : State = record { places = c.self.inside.places; run = c.self.inside.run; tick = c.self.inside.tick; parties = c.self.inside.parties; locks = c.self.inside.locks; flights = c.self.inside.flights; ticks = c.self.inside.ticks; over = c.self.inside.over } in
    parties_last s c.fail.new.self c.self.inside.locks c.self.invariant c.fail.ensures.keeps c.fail.ensures.becomes.stays.segments

pub returns : goal.returns
returns c =
    let s : State = record { places = c.self.inside.places; run = c.self.inside.run; tick = c.self.inside.tick; parties = c.self.inside.parties; locks = c.self.inside.locks; flights = c.self.inside.flights; ticks = c.self.inside.ticks; over = c.self.inside.over } in
    failed_is s c.fail.new.self c.args.a.0 c.fail.ensures.becomes c.requires ∙ ap (λ (s : State). call_failed (core_at s) c.args.a.0) c.self.view_is
