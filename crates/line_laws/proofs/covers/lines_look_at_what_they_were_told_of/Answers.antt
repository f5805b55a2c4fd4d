-- By the walks of the line, and by operations.
use Rattle.line_laws.proofs.LinesTold.{lines_are_told}
use Rattle.line_laws.proofs.covers.lines_look_at_what_they_were_told_of.Goals as goal

pub returns : goal.returns
returns c = record { told = lines_are_told }
