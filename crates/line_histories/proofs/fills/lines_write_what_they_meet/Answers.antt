-- Outcome by outcome.
use Rattle.line_histories.proofs.PartLaws.{lines_meet_parts}
use Rattle.line_histories.proofs.fills.lines_write_what_they_meet.Goals as goal

pub returns : goal.returns
returns c = record { meets = lines_meet_parts }
