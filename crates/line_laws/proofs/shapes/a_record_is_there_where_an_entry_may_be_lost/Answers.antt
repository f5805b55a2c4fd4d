-- By what the plan of each operation tells.
use Rattle.line_laws.proofs.Recorded.{records_are_shapes, changes_are_shapes, changes_at_hand_are_shapes}
use Rattle.line_laws.proofs.LinesRecorded.{lines_record_shapes, line_changes_are_shapes}
use Rattle.line_laws.proofs.shapes.a_record_is_there_where_an_entry_may_be_lost.Goals as goal

pub returns-clause-edits : goal.returns-clause-edits
returns-clause-edits c = records_are_shapes

pub returns-clause-changes : goal.returns-clause-changes
returns-clause-changes c = changes_are_shapes

pub returns-clause-at_hand : goal.returns-clause-at_hand
returns-clause-at_hand c = changes_at_hand_are_shapes

pub returns-clause-lines : goal.returns-clause-lines
returns-clause-lines c = lines_record_shapes

pub returns-clause-line_changes : goal.returns-clause-line_changes
returns-clause-line_changes c = line_changes_are_shapes
