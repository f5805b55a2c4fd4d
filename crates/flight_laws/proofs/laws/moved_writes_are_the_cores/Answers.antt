-- The law, as it is proved of lists.
use Rattle.flight_laws.proofs.Moving.{moved_writes_are_the_cores}
use Rattle.flight_laws.proofs.laws.moved_writes_are_the_cores.Goals as goal

pub returns : goal.returns
returns c = record { made = moved_writes_are_the_cores }
