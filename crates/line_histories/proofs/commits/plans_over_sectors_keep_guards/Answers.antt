-- By its locks.
use Rattle.line_histories.proofs.Guarded.{sound_guarded, lines_guarded}
use Rattle.line_histories.proofs.commits.plans_over_sectors_keep_guards.Goals as goal

pub returns : goal.returns
returns c = record { kept = sound_guarded; lines = lines_guarded }
