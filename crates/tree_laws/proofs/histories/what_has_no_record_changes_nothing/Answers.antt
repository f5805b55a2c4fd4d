-- By the shapes, and the cells that no write reaches.
use Rattle.tree_laws.proofs.RecordingLaws.{unrecorded_changes_nothing, unrecorded_leaves_the_shape, nothing_is_removed}
use Rattle.tree_laws.proofs.histories.what_has_no_record_changes_nothing.Goals as goal

pub returns-clause-changes : goal.returns-clause-changes
returns-clause-changes c = unrecorded_changes_nothing

pub returns-clause-shape : goal.returns-clause-shape
returns-clause-shape c = unrecorded_leaves_the_shape

pub returns-clause-kept : goal.returns-clause-kept
returns-clause-kept c = nothing_is_removed
