-- The law, as it is proved of lists.
use Rattle.flight_laws.proofs.Flying.{writes_under_a_lock_are_the_cores}
use Rattle.flight_laws.proofs.laws.writes_under_a_lock_are_the_cores.Goals as goal

pub returns : goal.returns
returns c = record { asked = writes_under_a_lock_are_the_cores }
