-- Event by event.
use Rattle.core_laws.proofs.Lasting.{expiry_ends, expiry_lasts}
use Rattle.core_laws.proofs.leases.leases_last.Goals as goal

pub returns : goal.returns
returns c = record { last = expiry_lasts; end = expiry_ends }
