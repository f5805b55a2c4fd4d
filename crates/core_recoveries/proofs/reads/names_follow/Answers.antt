-- By whether the records name the sector.
use Rattle.core_recoveries.proofs.Naming.{names_follow}
use Rattle.core_recoveries.proofs.reads.names_follow.Goals as goal

pub returns : goal.returns
returns c = record { names = names_follow }
