-- Law by law.
use Rattle.stop_laws.proofs.Begun.{fresh_disk_stands}
use Rattle.stop_laws.proofs.Left.{the_disk_stands}
use Rattle.stop_laws.proofs.at_stops.the_disk_stands_for_the_history.Goals as goal

pub returns : goal.returns
returns c = record { stands = the_disk_stands; fresh = fresh_disk_stands }
