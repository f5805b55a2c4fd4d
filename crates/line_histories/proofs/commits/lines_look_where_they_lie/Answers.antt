-- Look by look.
use Rattle.line_histories.proofs.Lying.{lines_lie}
use Rattle.line_histories.proofs.commits.lines_look_where_they_lie.Goals as goal

pub returns : goal.returns
returns c = lines_lie
