-- Edit by edit.
use Rattle.line_histories.proofs.Owned.{sound_owns, lines_own}
use Rattle.line_histories.proofs.commits.outcomes_own_what_they_write.Goals as goal

pub returns : goal.returns
returns c = record { own = sound_owns; lines = lines_own }
