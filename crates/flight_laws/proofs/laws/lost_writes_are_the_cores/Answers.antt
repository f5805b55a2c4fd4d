-- The law, as it is proved of lists.
use Rattle.flight_laws.proofs.Flying.{lost_writes_are_the_cores}
use Rattle.flight_laws.proofs.laws.lost_writes_are_the_cores.Goals as goal

pub returns : goal.returns
returns c = record { made = lost_writes_are_the_cores }
