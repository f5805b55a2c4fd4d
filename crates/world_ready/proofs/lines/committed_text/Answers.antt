-- With the reply of the kept plan and the line's number.
use Rattle.std.proofs.Common.{◌≡◌, ℕ, List, Option, sym, ap, subst, ◌∙◌}
use Rattle.core_definitions.specs.LineEffects.{number_under}
use Rattle.core_definitions.specs.Plans.{Outcome}
use Rattle.frang_base.specs.declared.reply.Reply.{Reply}
use Rattle.frang_base.specs.declared.said.Said.TheVariants as said
use Rattle.kept_plans.specs.declared.kept.KeptPlan.{KeptPlan}
use Rattle.line_stages.specs.Stages.{ComesTo}
use Rattle.tree_definitions.specs.SaidLines.{said_line}
use Rattle.world_parties.specs.States.{State as Parties, plan_at}
use Rattle.world_state.specs.States.{core_at}
use Rattle.world_ready.proofs.Results.{if_ok}
use Rattle.world_ready.proofs.Saying.{number_at}
use Rattle.world_ready.proofs.lines.committed_text.Goals as goal

pub returns : goal.returns
returns c =
    let s = c.args.world.now in
    let a = c.args.a in
    let party = c.get-party.result.now in
    let plan_is : party.plan ≡ plan_at s.parties a.0 = c.get-party.ensures.plan ∙ ap (λ (p : Parties). plan_at p a.0) c.parties.ensures in
    let Was : List ℕ → Type 0 = λ text. text ≡ said_line (said.Answer a c.line_number-number.result c.in_ok-reply.reply) in
    let Is : List ℕ → Type 0 = λ text. (outcome : Outcome) → ComesTo (plan_at s.parties a.0) outcome → text ≡ said_line (said.Answer a (number_under ((core_at s).servers a.0).under) outcome.reply) in
    if_ok Was Is c.answer_text.result
    (λ text is outcome comes.
    let P : Option KeptPlan → Type 0 = λ plan. ComesTo plan outcome in
    is ∙ ap (λ n. said_line (said.Answer a n c.in_ok-reply.reply)) (number_at s a.0 c.parties.result.now party c.line_number-number.result c.parties.ensures c.get-party.ensures.server c.line_number-number.ensures)
    ∙ ap (λ (r : Reply). said_line (said.Answer a (number_under ((core_at s).servers a.0).under) r)) (c.in_ok-reply.ensures outcome (subst P (sym plan_is) comes)))
    c.answer_text.ensures
