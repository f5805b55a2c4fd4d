-- The law, as it is proved of lists.
use Rattle.flight_laws.proofs.Flying.{a_landed_write_is_the_cores}
use Rattle.flight_laws.proofs.laws.a_landed_write_is_the_cores.Goals as goal

pub returns : goal.returns
returns c = record { made = a_landed_write_is_the_cores }
