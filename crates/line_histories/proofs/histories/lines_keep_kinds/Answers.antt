-- Edit by edit.
use Rattle.line_histories.proofs.EditedKinds.{lines_keep}
use Rattle.line_histories.proofs.histories.lines_keep_kinds.Goals as goal

pub returns : goal.returns
returns c = lines_keep
