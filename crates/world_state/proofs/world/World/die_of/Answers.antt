-- The server is dead, and what it had in flight is lost or left behind.
use Rattle.std.proofs.Common.{ap, ◌∙◌}
use Rattle.core_definitions.specs.WriteEffects.{died}
use Rattle.server_core.specs.Phases.{fate_of}
use Rattle.world_state.specs.States.{State, core_at}
use Rattle.world_state.proofs.Effects.{died_is}
use Rattle.world_state.proofs.Lasting.{death_lasts}
use Rattle.world_state.proofs.world.World.die_of.Goals as goal

pub invariant_of-self : goal.invariant_of-self
invariant_of-self c =
    let s : State = record { places = c.self.inside.places; run = c.self.inside.run; tick = c.self.inside.tick; parties = c.self.inside.parties; locks = c.self.inside.locks; flights = c.self.inside.flights; ticks = c.self.inside.ticks; over = c.self.inside.over } in
    death_lasts s c.die.new.self c.lose_or_leave.new.flights c.args.a.0 c.args.fate.loses c.self.invariant c.die.ensures.keeps c.die.ensures.becomes.stays.segments c.die.ensures.bare c.lose_or_leave.ensures.flights

pub returns : goal.returns
returns c =
    let s : State = record { places = c.self.inside.places; run = c.self.inside.run; tick = c.self.inside.tick; parties = c.self.inside.parties; locks = c.self.inside.locks; flights = c.self.inside.flights; ticks = c.self.inside.ticks; over = c.self.inside.over } in
    died_is s c.die.new.self c.lose_or_leave.new.flights c.args.a.0 (fate_of c.args.fate) c.die.ensures.becomes c.lose_or_leave.ensures.flights c.lose_or_leave.ensures.next
    (ap (λ (s : State). ((core_at s).servers c.args.a.0).phase) c.self.view_is ∙ c.requires.fate) ∙ ap (λ (s : State). died (core_at s) c.args.a.0) c.self.view_is
