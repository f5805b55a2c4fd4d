-- Sector by sector.
use Rattle.line_histories.proofs.Done.{line_done_is_made}
use Rattle.line_histories.proofs.Places.{lines_write_in_place as in_place}
use Rattle.line_histories.proofs.commits.lines_write_in_place.Goals as goal

pub returns : goal.returns
returns c = record { place = in_place; made = line_done_is_made }
