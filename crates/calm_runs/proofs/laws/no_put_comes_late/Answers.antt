-- Event by event.
use Rattle.calm_runs.proofs.Runs.{no_put_is_late}
use Rattle.calm_runs.proofs.laws.no_put_comes_late.Goals as goal

pub returns : goal.returns
returns c = record { timely = no_put_is_late c.writes_last.ensures.timely }
