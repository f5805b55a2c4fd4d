-- Outcome by outcome.
use Rattle.stop_laws.proofs.BytesAlong.{doubt_same_along}
use Rattle.stop_laws.proofs.byte_laws.doubt_is_the_same_along_lines.Goals as goal

pub returns : goal.returns
returns c = record { same = doubt_same_along }
