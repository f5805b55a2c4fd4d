-- Line by line.
use Rattle.line_laws.proofs.Turning.{lines_go_on}
use Rattle.line_laws.proofs.onward.lines_go_on.Goals as goal

pub returns : goal.returns
returns c = record { on = lines_go_on }
