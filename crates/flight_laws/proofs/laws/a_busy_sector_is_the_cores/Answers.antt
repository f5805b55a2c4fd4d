-- The law, as it is proved of lists.
use Rattle.flight_laws.proofs.Flying.{a_busy_sector_is_the_cores}
use Rattle.flight_laws.proofs.laws.a_busy_sector_is_the_cores.Goals as goal

pub returns : goal.returns
returns c = record { asked = a_busy_sector_is_the_cores }
