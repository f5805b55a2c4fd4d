-- The write with the ticket is taken out, and its sector's ticket with it.
use Rattle.std.proofs.Common.{[], IsSome, sym, subst, ap, ◌∙◌}
use Rattle.std.proofs.lemmas.Bool.{false≢true}
use Rattle.sector_bytes.specs.SectorMaps.{Ascend, value_at}
use Rattle.sector_bytes.proofs.MapLaws.{ascend_without}
use Rattle.petal_disk.specs.Flights.{AreFlights, busy_with, without, write_at}
use Rattle.petal_disk.specs.Flying.{put_of}
use Rattle.petal_disk.specs.Keeping.{AreCounted}
use Rattle.petal_disk.proofs.Counting.{AreCounted-without}
use Rattle.petal_disk.proofs.InFlight.{AreFlights-without}
use Rattle.petal_disk.proofs.Indexing.{IsIndex-without}
use Rattle.petal_disk.proofs.flight.Flight.lose.Goals as goal

pub unreachable-requires : goal.unreachable-requires
unreachable-requires c = false≢true (subst IsSome (ap (λ flight. write_at flight.writes c.args.t.0) (sym c.self.view_is) ∙ sym c.in-None.ensures.writes) c.requires)

pub invariant_of-self : goal.invariant_of-self
invariant_of-self c =
    let t = c.args.t.0 in
    let put = put_of c.in-Some.flying.now in
    let kept = c.self.invariant in
    record {
      flights = subst (λ writes. AreFlights (record { writes = writes; flying = []; next = c.self.inside.next; room = 0 })) (sym c.remove-in-Some.ensures.writes) (AreFlights-without t c.self.inside.writes.writes c.self.inside.next kept.flights);
      ordered = subst Ascend (sym c.remove.ensures.entries) (ascend_without put.sector.0 c.self.inside.tickets.entries kept.ordered);
      index = λ q. ap (λ entries. value_at entries q) c.remove.ensures.entries
          ∙ IsIndex-without c.self.inside.tickets.entries c.self.inside.writes.writes t put kept.ordered kept.flights.apart (sym c.in-Some.ensures.writes) kept.index q
          ∙ sym (ap (λ writes. busy_with writes q) c.remove-in-Some.ensures.writes);
      counted = subst (AreCounted c.fewer.new.self) (sym c.remove-in-Some.ensures.flying)
          (subst (λ counts. AreCounted counts (without c.self.inside.writes.flying t)) (sym c.fewer.ensures.counts)
          (AreCounted-without c.self.inside.counts c.self.inside.writes.flying kept.counted t c.in-Some.flying.now c.fewer.ensures.party (sym c.in-Some.ensures.flying)));
    }
