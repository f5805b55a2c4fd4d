-- By what the line comes to.
use Rattle.line_histories.proofs.LinesSound.{lines_are_sound}
use Rattle.line_histories.proofs.commits.line_plans_are_sound.Goals as goal

pub returns : goal.returns
returns c = record { sound = lines_are_sound }
