-- The law.
use Rattle.kept_laws.proofs.Lines.{lines_keep}
use Rattle.kept_laws.proofs.laws.what_lines_tell_is_kept.Goals as goal

pub returns : goal.returns
returns c = record { lines = lines_keep }
