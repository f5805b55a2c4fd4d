-- Event by event.
use Rattle.core_laws.proofs.Single.{sectors_once, tickets_once}
use Rattle.core_laws.proofs.steps.writes_stand_once.Goals as goal

pub returns : goal.returns
returns c = record { tickets = tickets_once; sectors = sectors_once }
