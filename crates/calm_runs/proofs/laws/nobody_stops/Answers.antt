-- Event by event.
use Rattle.calm_runs.proofs.Runs.{nobody_stops}
use Rattle.calm_runs.proofs.laws.nobody_stops.Goals as goal

pub returns : goal.returns
returns c = record { stops = nobody_stops c.writes_last.ensures.timely }
