-- The law, as it is proved of lists.
use Rattle.flight_laws.proofs.Flying.{an_issued_write_is_the_cores}
use Rattle.flight_laws.proofs.laws.an_issued_write_is_the_cores.Goals as goal

pub returns : goal.returns
returns c = record { made = an_issued_write_is_the_cores }
