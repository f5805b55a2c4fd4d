-- The operation that comes of the walks, or their refusal.
use Rattle.std.proofs.Common.{[], List, ℕ, IfOk, refl, sym, subst, ap, ◌∙◌}
use Rattle.std.proofs.lemmas.Result.{on_ok_weaker}
use Rattle.disk_definitions.specs.PlanOf.{plan_of}
use Rattle.disk_definitions.specs.Lines.{plan_step, with_trail}
use Rattle.dir_lookup.specs.Hands.{over, seen}
use Rattle.dir_lookup.specs.Reading.{Gives, reading}
use Rattle.dir_lookup.proofs.Looking.{adds_as, adds_none}
use Rattle.plan_steps.specs.Ends.{Comes}
use Rattle.disk_definitions.specs.LookedAt.{examined}
use Rattle.plan_steps.proofs.Ending.{answers}
use Rattle.plan_steps.proofs.Examining.{examined_got}
use Rattle.line_plan.specs.Ends.{ClearsFor}
use Rattle.line_plan.specs.Lines.{step_by}
use Rattle.line_plan.specs.declared.walks.Step.{Step}
use Rattle.line_plan.proofs.Behind.{step_comes}
use Rattle.line_plan.proofs.plan.plan_step.Goals as goal

pub returns-in-Goes-clause-comes : goal.returns-in-Goes-clause-comes
returns-in-Goes-clause-comes c =
    let hand = c.args.hand.now in
    let trail = c.args.resolved.trail.items in
    c.line_end.ensures.comes (over (plan_step (seen hand) c.args.birth c.args.when trail (step_by c.args.resolved.step)) hand)
    (subst (λ s. Comes (over (plan_step (seen hand) c.args.birth c.args.when trail (step_by s)) hand) c.plan_op-ended.result) (sym c.in-Goes.is)
    (step_comes hand.sectors.now.entries hand.held.now (seen hand) c.args.birth c.args.when trail c.in-Goes.over c.plan_op-ended.result c.plan_op-ended.ensures.comes))

pub returns-clause-comes : goal.returns-clause-comes
returns-clause-comes c =
    let hand = c.args.hand.now in
    let trail = c.args.resolved.trail.items in
    let plan = λ (s : Step). over (plan_step (seen hand) c.args.birth c.args.when trail (step_by s)) hand in
    answers (plan c.args.resolved.step) c.in-Stops.reply trail c.unchanged.result (ap plan c.in-Stops.is) c.unchanged.ensures.reply c.unchanged.ensures.edits

pub returns-in-Goes-clause-clears : goal.returns-in-Goes-clause-clears
returns-in-Goes-clause-clears c =
    let trail = c.args.resolved.trail.items in
    subst (λ s. IfOk c.line_end.result (ClearsFor (Gives (record { step = step_by s; trail = trail })))) (sym c.in-Goes.is) (c.line_end.ensures.clears trail)

pub returns-in-Goes-clause-looks : goal.returns-in-Goes-clause-looks
returns-in-Goes-clause-looks c =
    let hand = c.args.hand.now in
    let cached = hand.sectors.now.entries in
    let held = hand.held.now in
    let trail = c.args.resolved.trail.items in
    let plan : Step → List ℕ = λ s. examined (plan_step (seen hand) c.args.birth c.args.when trail (step_by s)) cached held in
    let p = plan_of (seen hand) c.args.birth c.args.when c.in-Goes.over in
    on_ok_weaker c.line_end.result (λ m. adds_as _ _ _ _ (examined_got p (with_trail trail) cached held (reading p cached held) refl ∙ ap plan (sym c.in-Goes.is)) (c.plan_op-ended.ensures.looks m)) c.line_end.ensures.memory

pub returns-clause-looks : goal.returns-clause-looks
returns-clause-looks c =
    let hand = c.args.hand.now in
    let cached = hand.sectors.now.entries in
    let held = hand.held.now in
    let trail = c.args.resolved.trail.items in
    let plan : Step → List ℕ = λ s. examined (plan_step (seen hand) c.args.birth c.args.when trail (step_by s)) cached held in
    adds_as _ _ [] _ (ap plan (sym c.in-Stops.is)) (adds_none _)
