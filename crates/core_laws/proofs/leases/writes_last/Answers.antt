-- Event by event.
use Rattle.core_laws.proofs.Lasting.{stamp_ends, stamp_in_time, stamp_lasts}
use Rattle.core_laws.proofs.leases.writes_last.Goals as goal

pub returns : goal.returns
returns c = record { last = stamp_lasts; timely = stamp_in_time; end = stamp_ends }
