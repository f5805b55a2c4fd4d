-- The first of those left is the first of all.
use Rattle.std.proofs.Common.{◌≡◌, drop}
use Rattle.server_core.specs.States.{cached_in}
use Rattle.server_writes.specs.Wants.{first_of, ready_sector}
use Rattle.server_writes.proofs.ready.first_ready.Given as goal

abbrev pub invariant-loop-sector : goal.invariant-loop-sector
invariant-loop-sector l = first_of (λ sector. ready_sector (cached_in l.server) l.server.server.ring.reached sector.0) (drop l.sector-index l.sectors) ≡ first_of (λ sector. ready_sector (cached_in l.server) l.server.server.ring.reached sector.0) l.sectors
