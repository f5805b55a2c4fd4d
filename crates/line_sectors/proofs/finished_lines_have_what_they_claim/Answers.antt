-- They are known to be zero.
use Rattle.line_sectors.proofs.AtHand.{done_lines_have_what_they_claim}
use Rattle.line_sectors.proofs.finished_lines_have_what_they_claim.Goals as goal

pub returns : goal.returns
returns c = record { claims = done_lines_have_what_they_claim }
