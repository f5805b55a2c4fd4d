-- The law, as it is proved of lists.
use Rattle.flight_laws.proofs.Flying.{writes_left_behind_are_the_cores}
use Rattle.flight_laws.proofs.laws.writes_left_behind_are_the_cores.Goals as goal

pub returns : goal.returns
returns c = record { made = writes_left_behind_are_the_cores }
