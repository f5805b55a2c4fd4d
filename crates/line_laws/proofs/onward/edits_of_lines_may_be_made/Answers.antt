-- By the plan that follows, over a store of the shape.
use Rattle.line_laws.proofs.Readiness.{lines_may_be_made}
use Rattle.line_laws.proofs.onward.edits_of_lines_may_be_made.Goals as goal

pub returns : goal.returns
returns c = record { may = lines_may_be_made }
