-- By what it looks at.
use Rattle.line_histories.proofs.Framed.{sound_framed, lines_framed}
use Rattle.line_histories.proofs.commits.plans_over_sectors_are_framed.Goals as goal

pub returns : goal.returns
returns c = record { framed = sound_framed; lines = lines_framed }
