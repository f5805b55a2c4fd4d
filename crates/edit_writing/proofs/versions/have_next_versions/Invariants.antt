-- Where the edits so far have next versions, all have them where those that are left have.
use Rattle.std.proofs.Common.{◌≡◌, drop}
use Rattle.plan_steps.specs.Edits.{edits_of}
use Rattle.edit_writing.specs.Sectors.{at_hand}
use Rattle.edit_writing.specs.Sectors as meaning
use Rattle.edit_writing.proofs.versions.have_next_versions.Given as goal

abbrev pub invariant-loop-edit : goal.invariant-loop-edit
invariant-loop-edit l =
    let old = at_hand l.hand in
    meaning.have_next_versions old (edits_of (drop l.edit-index l.edits)) ≡ meaning.have_next_versions old (edits_of l.edits)
