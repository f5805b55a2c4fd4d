-- What is kept are flights.
use Rattle.std.proofs.Common.{subst}
use Rattle.petal_disk.specs.Flights.{AreFlights}
use Rattle.petal_disk.proofs.flight.Flight.count.Goals as goal

pub returns-clause-flights : goal.returns-clause-flights
returns-clause-flights c =
    let kept = c.self.invariant.flights in
    subst AreFlights c.self.view_is (record { ascending = kept.ascending; given = kept.given; apart = kept.apart })
