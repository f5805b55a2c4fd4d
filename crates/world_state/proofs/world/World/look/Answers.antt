-- The sector is looked at.
use Rattle.std.proofs.Common.{ap, ◌∙◌}
use Rattle.core_definitions.specs.EndEffects.{looked}
use Rattle.core_definitions.specs.EndGuards.{is_recovery, wants_look}
use Rattle.world_state.specs.States.{State, core_at}
use Rattle.world_state.proofs.Recovering.{is_party, look_is_wanted, looked_is}
use Rattle.world_state.proofs.Lasting.{parties_last}
use Rattle.world_state.proofs.world.World.look.Goals as goal

pub look-requires-clause-party : goal.look-requires-clause-party
look-requires-clause-party c = is_party (core_at c.args.self.now) c.args.by.0 c.requires.worker

pub look-requires-clause-wanted : goal.look-requires-clause-wanted
look-requires-clause-wanted c =
    let s : State = record { places = c.self.inside.places; run = c.self.inside.run; tick = c.self.inside.tick; parties = c.self.inside.parties; locks = c.self.inside.locks; flights = c.self.inside.flights; ticks = c.self.inside.ticks; over = c.self.inside.over } in
    look_is_wanted s c.args.by.0 c.args.sector.0 (ap (λ (s : State). is_recovery (wants_look (core_at s) c.args.sector.0) ((core_at s).servers c.args.by.0).recovery) c.self.view_is ∙ c.requires.wanted)

pub invariant_of-self : goal.invariant_of-self
invariant_of-self c =
    let s : State = record { places = c.self.inside.places; run = c.self.inside.run; tick = c.self.inside.tick; parties = c.self.inside.parties; locks = c.self.inside.locks; flights = c.self.inside.flights; ticks = c.self.inside.ticks; over = c.self.inside.over } in
    parties_last s c.look.new.self c.self.inside.locks c.self.invariant c.look.ensures.keeps c.look.ensures.becomes.stays.segments

pub returns : goal.returns
returns c =
    let s : State = record { places = c.self.inside.places; run = c.self.inside.run; tick = c.self.inside.tick; parties = c.self.inside.parties; locks = c.self.inside.locks; flights = c.self.inside.flights; ticks = c.self.inside.ticks; over = c.self.inside.over } in
    looked_is s c.look.new.self c.args.by.0 c.args.sector.0 c.args.block.now c.look.ensures.becomes ∙ ap (λ (s : State). looked (core_at s) c.args.by.0 c.args.sector.0 c.args.block.now) c.self.view_is
