-- Outcome by outcome.
use Rattle.stop_laws.proofs.BytesKept.{lines_keep}
use Rattle.stop_laws.proofs.byte_laws.lines_keep_bytes.Goals as goal

pub returns : goal.returns
returns c = record { kept = lines_keep }
