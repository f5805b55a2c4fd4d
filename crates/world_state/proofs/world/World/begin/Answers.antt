-- The line is under way.
use Rattle.std.proofs.Common.{sym, subst, ap, ◌∙◌}
use Rattle.core_definitions.specs.LineEffects.{begun}
use Rattle.world_state.specs.Begins.{Begins}
use Rattle.world_state.specs.States.{State, core_at}
use Rattle.world_state.proofs.Effects.{begun_is}
use Rattle.world_state.proofs.Lasting.{parties_last}
use Rattle.world_state.proofs.world.World.begin.Goals as goal

pub invariant_of-self : goal.invariant_of-self
invariant_of-self c =
    let s : State = record { places = c.self.inside.places; run = c.self.inside.run; tick = c.self.inside.tick; parties = c.self.inside.parties; locks = c.self.inside.locks; flights = c.self.inside.flights; ticks = c.self.inside.ticks; over = c.self.inside.over } in
    parties_last s c.begin.new.self c.self.inside.locks c.self.invariant c.begin.ensures.keeps c.begin.ensures.becomes.stays.segments

pub returns : goal.returns
returns c =
    let s : State = record { places = c.self.inside.places; run = c.self.inside.run; tick = c.self.inside.tick; parties = c.self.inside.parties; locks = c.self.inside.locks; flights = c.self.inside.flights; ticks = c.self.inside.ticks; over = c.self.inside.over } in
    let P : State → Type 0 = λ s. Begins s c.args.a.0 c.args.under.under in
    begun_is s c.begin.new.self c.args.a.0 c.args.under.under c.begin.ensures.becomes (subst P (sym c.self.view_is) c.requires.begins) ∙ ap (λ (s : State). begun (core_at s) c.args.a.0) c.self.view_is
