-- Outcome by outcome.
use Rattle.line_histories.proofs.PartLaws.{lines_keep_parts}
use Rattle.line_histories.proofs.fills.parts_stay_or_are_written.Goals as goal

pub returns : goal.returns
returns c = record { parts = lines_keep_parts }
