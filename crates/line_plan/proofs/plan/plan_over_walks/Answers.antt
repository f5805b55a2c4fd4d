-- By what the walks come to.
use Rattle.std.proofs.Common.{IfOk, sym, subst, ap, ◌∙◌}
use Rattle.std.proofs.lemmas.Result.{on_ok_weaker}
use Rattle.tree_definitions.specs.Perform.{Resolved}
use Rattle.disk_definitions.specs.Ask.{Ask}
use Rattle.disk_definitions.specs.Plans.{Plan}
use Rattle.disk_definitions.specs.Lines.{plan_of_line, plan_step, resolved}
use Rattle.dir_lookup.specs.Reading.{Gives, Lacks}
use Rattle.dir_lookup.specs.Hands.{seen}
use Rattle.plan_steps.proofs.Examining.{as_examined}
use Rattle.plan_steps.proofs.Looking.{bind_end, bind_to, then_looks}
use Rattle.line_plan.specs.Ends.{ClearsFor, Comes}
use Rattle.line_plan.specs.Lines.{line_as, resolved_by}
use Rattle.line_plan.proofs.Behind.{line_goes}
use Rattle.line_plan.proofs.Fitting.{ReadFits, resolved_fits}
use Rattle.line_plan.proofs.WalkReads.{resolved_reads}
use Rattle.line_plan.proofs.plan.plan_over_walks.Goals as goal

pub returns-in-Need-clause-comes : goal.returns-in-Need-clause-comes
returns-in-Need-clause-comes c =
    let hand = c.args.hand.now in
    let cached = hand.sectors.now.entries in
    let held = hand.held.now in
    sym (line_goes cached held (seen hand) c.args.birth c.args.when c.args.op.now (Lacks c.in-Need.sector.0) (sym (ap line_as c.in-Need.is) ∙ c.in_ok-line.ensures.comes held))

pub plan_step-requires : goal.plan_step-requires
plan_step-requires c =
    let hand = c.args.hand.now in
    let cached = hand.sectors.now.entries in
    let held = hand.held.now in
    subst ReadFits (sym (sym (ap line_as c.in-Comes.is) ∙ c.in_ok-line.ensures.comes held)) (resolved_fits cached held c.args.op.now c.requires)

pub returns-in-Comes-clause-comes : goal.returns-in-Comes-clause-comes
returns-in-Comes-clause-comes c =
    let hand = c.args.hand.now in
    let cached = hand.sectors.now.entries in
    let held = hand.held.now in
    subst (λ p. Comes p c.plan_step.result)
    (line_goes cached held (seen hand) c.args.birth c.args.when c.args.op.now (Gives (resolved_by c.in-Comes.resolved)) (sym (ap line_as c.in-Comes.is) ∙ c.in_ok-line.ensures.comes held))
    c.plan_step.ensures.comes

pub returns-in-Comes-clause-clears : goal.returns-in-Comes-clause-clears
returns-in-Comes-clause-clears c =
    subst (λ walks. IfOk c.plan_step.result (ClearsFor walks)) (sym (ap line_as c.in-Comes.is) ∙ c.in_ok-line.ensures.comes c.args.hand.now.held.now) c.plan_step.ensures.clears

pub returns-in-Need-clause-looks : goal.returns-in-Need-clause-looks
returns-in-Need-clause-looks c =
    let hand = c.args.hand.now in
    let cached = hand.sectors.now.entries in
    let held = hand.held.now in
    let operation = c.args.op.now in
    let f : Resolved → Ask Plan = λ walked. plan_step (seen hand) c.args.birth c.args.when walked.trail walked.step in
    bind_end cached held (resolved operation) f c.in-Need.sector.0 _ _ (sym (ap line_as c.in-Need.is) ∙ c.in_ok-line.ensures.comes held) (as_examined cached held _ _ (resolved operation) (resolved_reads operation) (c.in_ok-line.ensures.looks held))

pub returns-in-Comes-clause-looks : goal.returns-in-Comes-clause-looks
returns-in-Comes-clause-looks c =
    let hand = c.args.hand.now in
    let cached = hand.sectors.now.entries in
    let held = hand.held.now in
    let operation = c.args.op.now in
    let f : Resolved → Ask Plan = λ walked. plan_step (seen hand) c.args.birth c.args.when walked.trail walked.step in
    let walked : Resolved = resolved_by c.in-Comes.resolved in
    on_ok_weaker c.plan_step.result
    (then_looks cached held (plan_of_line (seen hand) c.args.birth c.args.when operation) (f walked) _ _ _
    (bind_to cached held (resolved operation) f walked _ _ (sym (ap line_as c.in-Comes.is) ∙ c.in_ok-line.ensures.comes held) (as_examined cached held _ _ (resolved operation) (resolved_reads operation) (c.in_ok-line.ensures.looks held))))
    c.plan_step.ensures.looks
