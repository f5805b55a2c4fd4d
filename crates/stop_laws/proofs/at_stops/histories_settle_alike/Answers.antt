-- Law by law.
use Rattle.stop_laws.proofs.Histories.{histories_settle_alike}
use Rattle.stop_laws.proofs.Stopping.{stops_settle_alike}
use Rattle.stop_laws.proofs.at_stops.histories_settle_alike.Goals as goal

pub returns : goal.returns
returns c = record { histories = histories_settle_alike; stops = stops_settle_alike }
