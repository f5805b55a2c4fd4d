-- Outcome by outcome.
use Rattle.line_histories.proofs.Laws.{lines_write_pieces}
use Rattle.line_histories.proofs.fills.lines_write_pieces.Goals as goal

pub returns : goal.returns
returns c = record { pieces = lines_write_pieces }
