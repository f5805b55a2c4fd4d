-- What was kept is what the plan examined.
use Rattle.std.proofs.Common.{ℕ, List, subst, ap, ◌∙◌}
use Rattle.disk_definitions.specs.Lines.{plan_of_line}
use Rattle.disk_definitions.specs.LookedAt.{nodes_in}
use Rattle.core_definitions.specs.Plans.{examined_in}
use Rattle.dir_lookup.specs.Hands.{seen}
use Rattle.lock_sets.specs.Seen.{numbers}
use Rattle.planned_lines.specs.Ends.{EndsAs, sight_by}
use Rattle.planned_lines.proofs.Examining.{all_kept}
use Rattle.planned_lines.proofs.plan.plan_for_core.Goals as goal

pub returns-clause-examined : goal.returns-clause-examined
returns-clause-examined c =
    let hand = c.args.hand.now in
    let program = plan_of_line (seen hand) c.args.number c.args.when c.args.op.now in
    all_kept _ _ (numbers c.in_ok-examined.examined.items) (examined_in program (sight_by hand)) c.new-looked.ensures c.in_ok-examined.ensures c.in_ok-line_end.ensures.looks

pub returns-clause-ends : goal.returns-clause-ends
returns-clause-ends c =
    let hand = c.args.hand.now in
    let sight = sight_by hand in
    let program = plan_of_line (seen hand) c.args.number c.args.when c.args.op.now in
    let told = all_kept _ _ (numbers c.in_ok-examined.examined.items) (examined_in program sight) c.new-looked.ensures c.in_ok-examined.ensures c.in_ok-line_end.ensures.looks in
    subst (λ (l : List ℕ). EndsAs c.args.segments c.args.number (nodes_in c.args.segments l) c.args.op.now sight program c.in_ok-end.end) (ap numbers c.deref.ensures.value ∙ told)
    (c.in_ok-end.ensures c.args.op.now program c.in_ok-line_end.ensures.comes c.in_ok-line_end.ensures.clears)
