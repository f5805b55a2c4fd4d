-- Nothing is in flight, and no sector has a ticket.
use Rattle.std.proofs.Common.{[], sym, ap, ◌∙◌, subst}
use Rattle.sector_bytes.specs.SectorMaps.{Ascend, value_at}
use Rattle.petal_disk.proofs.InFlight.{AreFlights-none, no_tickets}
use Rattle.petal_disk.proofs.Counting.{AreCounted-none}
use Rattle.petal_disk.specs.Keeping.{AreCounted}
use Rattle.petal_disk.specs.Flights.{AreFlights, busy_with}
use Rattle.petal_disk.proofs.flight.Flight.new.Goals as goal

pub invariant_of-result : goal.invariant_of-result
invariant_of-result c = record {
  flights = subst (λ writes. AreFlights (record { writes = writes; flying = []; next = 0; room = 0 })) (sym c.new.ensures.writes) (AreFlights-none 0);
  ordered = subst Ascend (sym c.new-2.ensures.entries) no_tickets;
  index = λ sector. ap (λ entries. value_at entries sector) c.new-2.ensures.entries ∙ sym (ap (λ writes. busy_with writes sector) c.new.ensures.writes);
  counted = subst (AreCounted c.new-3.result) (sym c.new.ensures.flying) (subst (λ counts. AreCounted counts []) (sym c.new-3.ensures) AreCounted-none);
}
