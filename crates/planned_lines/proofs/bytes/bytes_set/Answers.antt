-- An edit sets a sector, or none.
use Rattle.std.proofs.Common.{◌∙◌, ap, refl}
use Rattle.std.specs.List.{filter_map}
use Rattle.plan_steps.specs.Edits.{edits_of}
use Rattle.planned_lines.specs.Outcomes.{set_in}
use Rattle.planned_lines.proofs.Setting.{turn_some, turn_none}
use Rattle.planned_lines.proofs.bytes.bytes_set.Goals as goal
use Rattle.planned_lines.proofs.bytes.bytes_set.Goals.{in-Some+in_ok-push, in_default}

pub loop-edit-preserved : goal.loop-edit-preserved
loop-edit-preserved c =
    let f = set_in c.args.hand.now.sectors.now.entries c.args.hand.now.held.now c.args.nodes.now c.args.moves.now in
    let edits = c.args.edits.now in
    let all = filter_map f (edits_of edits) in
    let done = c.loop-edit.sets.items in
    let new = c.match-set_by.sets.items in
    elim c.match-set_by.branch [
      | in-Some+in_ok-push w ↦ turn_some f done new c.set_by.result w.in-Some.set edits c.loop-edit.edit-index _ _ all c.loop-edit-test.true refl c.loop-edit.invariant
          c.set_by.ensures w.in-Some.is (ap (λ v. v.items) w.sets-is ∙ w.in_ok-push.ensures.items)
      | in_default w ↦ turn_none f done new c.set_by.result edits c.loop-edit.edit-index _ _ all c.loop-edit-test.true refl c.loop-edit.invariant c.set_by.ensures
          w.in_default.is (ap (λ v. v.items) w.sets-is)
    ]
