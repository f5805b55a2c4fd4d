-- The changes so far, and then those of the sectors that are left, are all.
use Rattle.std.proofs.Common.{◌≡◌, ◌++◌, drop}
use Rattle.std.specs.List.{filter_map}
use Rattle.std.specs.Map.{keys_of}
use Rattle.disk_definitions.specs.Written as written
use Rattle.disk_definitions.specs.Written.{all_edited}
use Rattle.plan_steps.specs.Edits.{edits_of}
use Rattle.edit_writing.specs.Sectors.{at_hand}
use Rattle.edit_writing.proofs.changes.changes_at.Given as goal

abbrev pub invariant-loop-number : goal.invariant-loop-number
invariant-loop-number l =
    let edits = edits_of l.edits in
    let old = at_hand l.hand in
    let new = all_edited old edits in
    l.changes.items ++ filter_map (written.change_of edits old new) (keys_of (drop l.number-index l.numbers)) ≡ filter_map (written.change_of edits old new) (keys_of l.numbers)
