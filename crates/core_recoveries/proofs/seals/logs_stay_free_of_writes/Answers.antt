-- Event by event.
use Rattle.core_recoveries.proofs.Outside.{none_first, none_stay}
use Rattle.core_recoveries.proofs.seals.logs_stay_free_of_writes.Goals as goal

pub returns : goal.returns
returns c = record { first = none_first; stay = none_stay }
