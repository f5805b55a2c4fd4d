-- Event by event.
use Rattle.core_writes.proofs.Acknowledging.{acknowledged_first, acknowledged_stay}
use Rattle.core_writes.proofs.acknowledged.acknowledged_writes_stay_so.Goals as goal

pub returns : goal.returns
returns c = record { first = acknowledged_first; stay = acknowledged_stay }
