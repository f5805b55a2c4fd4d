-- The set so far, and the edits that are left.
use Rattle.std.proofs.Common.{◌≡◌, drop}
use Rattle.set_definitions.specs.Sets.{joined_all}
use Rattle.plan_steps.specs.Edits.{edits_of}
use Rattle.disk_definitions.specs.FoundLocks.{edit_locks, owns_at_hand}
use Rattle.plan_locks.proofs.edits.join_edits.Given as goal

abbrev pub invariant-loop-edit : goal.invariant-loop-edit
invariant-loop-edit l =
    let owns = owns_at_hand l.sectors.entries in
    joined_all l.set (edit_locks owns l.nodes (edits_of (drop l.edit-index l.edits))) ≡ joined_all l.initial.set (edit_locks owns l.nodes (edits_of l.edits))
