-- The line is answered, and one that halts ends everything.
use Rattle.std.proofs.Common.{sym, subst, ap, ◌∙◌}
use Rattle.core_definitions.specs.EndEffects.{host_answered}
use Rattle.world_state.specs.States.{IsHostLine, State, core_at}
use Rattle.world_state.proofs.Hosting.{host_answered_is, host_next}
use Rattle.world_state.proofs.world.World.host_line.Goals as goal

pub answer-requires : goal.answer-requires
answer-requires c =
    let s : State = record { places = c.self.inside.places; run = c.self.inside.run; tick = c.self.inside.tick; parties = c.self.inside.parties; locks = c.self.inside.locks; flights = c.self.inside.flights; ticks = c.self.inside.ticks; over = c.self.inside.over } in
    let P : State → Type 0 = λ s. IsHostLine s c.args.number c.halts-halts.result in
    host_next s c.args.number c.halts-halts.result (subst P (sym c.self.view_is) c.halts-halts.ensures)

pub returns : goal.returns
returns c =
    let s : State = record { places = c.self.inside.places; run = c.self.inside.run; tick = c.self.inside.tick; parties = c.self.inside.parties; locks = c.self.inside.locks; flights = c.self.inside.flights; ticks = c.self.inside.ticks; over = c.self.inside.over } in
    let P : State → Type 0 = λ s. IsHostLine s c.args.number c.halts-halts.result in
    host_answered_is s c.answer.new.self c.lose_if.new.flights c.args.number c.halts-halts.result (subst P (sym c.self.view_is) c.halts-halts.ensures) c.answer.ensures c.lose_if.ensures.flights c.lose_if.ensures.next
    ∙ ap (λ (s : State). host_answered (core_at s)) c.self.view_is
