-- The answer's effect may come, and makes of the core what the answer makes of it.
use Rattle.std.proofs.Common.{sym, subst, ap, ◌∙◌}
use Rattle.core_definitions.specs.Cores.{due_at}
use Rattle.core_definitions.specs.LineEffects.{answered, number_under}
use Rattle.core_definitions.specs.Servers.{Server}
use Rattle.world_state.specs.AnswerEffects.{effect_under}
use Rattle.world_state.specs.Rooms.{IsMountRing}
use Rattle.world_state.specs.States.{State, core_at}
use Rattle.world_state.proofs.LineAnswers.{answered_with_effect, may_have}
use Rattle.world_state.proofs.world.World.answer.Goals as goal

pub end_line-requires-clause-may : goal.end_line-requires-clause-may
end_line-requires-clause-may c =
    let s : State = record { places = c.self.inside.places; run = c.self.inside.run; tick = c.self.inside.tick; parties = c.self.inside.parties; locks = c.self.inside.locks; flights = c.self.inside.flights; ticks = c.self.inside.ticks; over = c.self.inside.over } in
    let a = c.args.a.0 in
    let P : State → Type 0 = λ s. IsMountRing s a c.args.answer c.args.ring in
    may_have s a c.args.answer c.in-Some.effect c.args.ring (ap (λ (s : State). effect_under ((core_at s).servers a).under c.args.answer) c.self.view_is ∙ sym c.effect.ensures ∙ c.in-Some.is)
    (c.requires.due ∙ ap (λ (s : State). due_at (core_at s) a) (sym c.self.view_is)) (subst P (sym c.self.view_is) c.requires.ring)

pub returns-in-Some : goal.returns-in-Some
returns-in-Some c =
    let s : State = record { places = c.self.inside.places; run = c.self.inside.run; tick = c.self.inside.tick; parties = c.self.inside.parties; locks = c.self.inside.locks; flights = c.self.inside.flights; ticks = c.self.inside.ticks; over = c.self.inside.over } in
    let a = c.args.a.0 in
    let P : State → Type 0 = λ s. IsMountRing s a c.args.answer c.args.ring in
    answered_with_effect s a c.args.answer c.answer_line.new.places c.end_line.new.parties c.give_back.new.locks c.line_number-number.result c.in-Some.effect c.args.ring
    (ap (λ (s : State). effect_under ((core_at s).servers a).under c.args.answer) c.self.view_is ∙ sym c.effect.ensures ∙ c.in-Some.is)
    (c.requires.due ∙ ap (λ (s : State). due_at (core_at s) a) (sym c.self.view_is)) (subst P (sym c.self.view_is) c.requires.ring)
    (c.line_number-number.ensures ∙ ap (λ (server : Server). number_under server.under) c.get.ensures.server) c.answer_line.ensures.script c.answer_line.ensures.passed c.answer_line.ensures.answered
    c.end_line.ensures.becomes c.give_back.ensures ∙ ap (λ (s : State). answered (core_at s) a) c.self.view_is
