-- The server is held, or no longer.
use Rattle.std.proofs.Common.{ap, ◌∙◌}
use Rattle.frang_base.specs.Functions.{put}
use Rattle.world_state.specs.States.{State, core_at}
use Rattle.world_state.proofs.Effects.{held_is}
use Rattle.world_state.proofs.Lasting.{parties_last}
use Rattle.world_state.proofs.world.World.hold.Goals as goal

pub invariant_of-self : goal.invariant_of-self
invariant_of-self c =
    let s : State = record { places = c.self.inside.places; run = c.self.inside.run; tick = c.self.inside.tick; parties = c.self.inside.parties; locks = c.self.inside.locks; flights = c.self.inside.flights; ticks = c.self.inside.ticks; over = c.self.inside.over } in
    parties_last s c.hold.new.self c.self.inside.locks c.self.invariant c.hold.ensures.keeps c.hold.ensures.segments

pub returns : goal.returns
returns c =
    let s : State = record { places = c.self.inside.places; run = c.self.inside.run; tick = c.self.inside.tick; parties = c.self.inside.parties; locks = c.self.inside.locks; flights = c.self.inside.flights; ticks = c.self.inside.ticks; over = c.self.inside.over } in
    held_is s c.hold.new.self c.args.a.0 c.args.held c.hold.ensures.held c.hold.ensures.servers c.hold.ensures.segments
    ∙ ap (λ (s : State). record (core_at s) { paused = put (core_at s).paused c.args.a.0 c.args.held }) c.self.view_is
