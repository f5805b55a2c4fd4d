-- By operations.
use Rattle.line_histories.proofs.Looked.{lines_look}
use Rattle.line_histories.proofs.fills.lines_look_at_bytes_of_files.Goals as goal

pub returns : goal.returns
returns c = record { files = lines_look }
