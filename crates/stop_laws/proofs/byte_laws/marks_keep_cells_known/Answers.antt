-- Outcome by outcome.
use Rattle.stop_laws.proofs.BytesMarked.{marked_have_none, marks_keep}
use Rattle.stop_laws.proofs.byte_laws.marks_keep_cells_known.Goals as goal

pub returns : goal.returns
returns c = record { marked = marked_have_none; known = marks_keep }
