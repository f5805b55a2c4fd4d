-- A sector gives its change, or nothing.
use Rattle.std.proofs.Common.{◌∙◌, ap}
use Rattle.std.specs.List.{filter_map}
use Rattle.std.specs.Map.{keys_of}
use Rattle.disk_definitions.specs.Written as written
use Rattle.disk_definitions.specs.Written.{all_edited}
use Rattle.plan_steps.specs.Edits.{edits_of}
use Rattle.edit_writing.specs.Sectors.{at_hand, has_next_version}
use Rattle.edit_writing.proofs.Changed.{key_passes, turn_some, turn_none}
use Rattle.edit_writing.proofs.changes.changes_at.Goals as goal
use Rattle.edit_writing.proofs.changes.changes_at.Goals.{in-Some+in_ok-push, in_default}

pub change_of-requires-clause-version : goal.change_of-requires-clause-version
change_of-requires-clause-version c =
    key_passes (has_next_version (at_hand c.args.hand.now)) c.args.numbers.now c.loop-number.number-index c.loop-number-test.true c.requires.versions

pub loop-number-preserved : goal.loop-number-preserved
loop-number-preserved c =
    let edits = edits_of c.args.edits.now in
    let old = at_hand c.args.hand.now in
    let f = written.change_of edits old (all_edited old edits) in
    let all = filter_map f (keys_of c.args.numbers.now) in
    let done = c.loop-number.changes.items in
    let new = c.match-branch-2.changes.items in
    elim c.match-branch-2.branch [
      | in-Some+in_ok-push w ↦ turn_some f done new c.in_ok-change.field-0 w.in-Some.change c.args.numbers.now c.loop-number.number-index all c.loop-number-test.true c.loop-number.invariant c.in_ok-change.ensures w.in-Some.is
          (ap (λ v. v.items) w.changes-is ∙ w.in_ok-push.ensures.items)
      | in_default w ↦ turn_none f done new c.in_ok-change.field-0 c.args.numbers.now c.loop-number.number-index all c.loop-number-test.true c.loop-number.invariant c.in_ok-change.ensures w.in_default.is
          (ap (λ v. v.items) w.changes-is)
    ]
