-- What is set so far, and then by the edits that are left, is set by all.
use Rattle.std.proofs.Common.{◌≡◌, ◌++◌, map, drop}
use Rattle.std.specs.List.{filter_map}
use Rattle.plan_steps.specs.Edits.{edits_of}
use Rattle.planned_lines.specs.Outcomes.{bytes_as, set_in}
use Rattle.planned_lines.proofs.bytes.bytes_set.Given as goal

abbrev pub invariant-loop-edit : goal.invariant-loop-edit
invariant-loop-edit l =
    map bytes_as l.sets.items ++ filter_map (set_in l.hand.sectors.now.entries l.hand.held.now l.nodes l.moves) (edits_of (drop l.edit-index l.edits))
    ≡ filter_map (set_in l.hand.sectors.now.entries l.hand.held.now l.nodes l.moves) (edits_of l.edits)
