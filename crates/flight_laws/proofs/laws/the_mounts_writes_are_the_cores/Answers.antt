-- The law, as it is proved of lists.
use Rattle.flight_laws.proofs.Flying.{the_mounts_writes_are_the_cores}
use Rattle.flight_laws.proofs.laws.the_mounts_writes_are_the_cores.Goals as goal

pub returns : goal.returns
returns c = record { asked = the_mounts_writes_are_the_cores }
