-- Law by law.
use Rattle.stop_laws.proofs.Events as events
use Rattle.stop_laws.proofs.at_stops.events_keep_sight.Goals as goal

pub returns : goal.returns
returns c = record { start = events.starts_in_sight; step = events.events_keep_sight }
