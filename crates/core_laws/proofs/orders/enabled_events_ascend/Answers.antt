-- Row by row.
use Rattle.core_laws.proofs.EventKeys.{events}
use Rattle.core_laws.proofs.Rows.{enabled_ascends, enabled_once}
use Rattle.core_laws.proofs.orders.enabled_events_ascend.Goals as goal

pub returns : goal.returns
returns c = record { order = events; ascends = enabled_ascends; once = enabled_once }
