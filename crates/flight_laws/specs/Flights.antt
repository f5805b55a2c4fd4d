-- The writes in flight of the code as those of the core.
use Rattle.std.specs.Prelude.{ℕ, List, fold, map}
use Rattle.frang_base.specs.declared.lock.LockId.{LockId}
use Rattle.core_definitions.specs.Flights as core
use Rattle.petal_disk.specs.Flying.{InFlight, moved}
use Rattle.petal_disk.specs.declared.flying.Flying.{Flying}
use Rattle.petal_disk.specs.declared.flying.Purpose.{Purpose}
use Rattle.petal_disk.specs.declared.flying.Purpose.TheVariants.{OfLog, InPlace, OfRecovery}

abbrev pub purpose_of : Purpose → core.Purpose
purpose_of (OfLog number) = core.OfLog number
purpose_of (InPlace cover) = core.InPlace cover
purpose_of OfRecovery = core.OfRecovery

abbrev pub flight_of : Flying → core.Flight
flight_of flying = record {
  server = flying.put.server.0;
  behalf = flying.put.behalf.0;
  stamp = flying.put.stamp;
  sector = flying.put.sector.0;
  block = flying.put.bytes;
  purpose = purpose_of flying.purpose;
  present = flying.present;
}

abbrev pub flights_of : InFlight → core.Flights
flights_of flights = map (λ one. (one.0.0, flight_of one.1)) flights

-- sector after sector, a server's write of it in place comes under a lock
abbrev pub moved_all : ℕ → List (ℕ × LockId) → InFlight → InFlight
moved_all server moves flights = fold (λ left move. moved server move.0 move.1 left) flights moves
