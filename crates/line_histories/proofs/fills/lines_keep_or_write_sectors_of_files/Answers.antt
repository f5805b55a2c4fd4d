-- Outcome by outcome.
use Rattle.line_histories.proofs.Laws.{lines_keep_or_write}
use Rattle.line_histories.proofs.fills.lines_keep_or_write_sectors_of_files.Goals as goal

pub returns : goal.returns
returns c = record { sectors = lines_keep_or_write }
