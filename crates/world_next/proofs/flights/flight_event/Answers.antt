-- The first arrives, and where there is none, nothing is in flight.
use Rattle.std.proofs.Common.{sym, ap}
use Rattle.petal_disk.specs.Flights.{Flights}
use Rattle.flight_laws.specs.Flights.{flights_of}
use Rattle.world_next.specs.Over.{core_over}
use Rattle.world_next.proofs.Flying.{arrives_first, nothing_flies}
use Rattle.world_next.proofs.flights.flight_event.Goals as goal

pub returns-in-Some : goal.returns-in-Some
returns-in-Some c = λ tree.
    arrives_first (core_over c.args.world.now tree) c.flights.result.now.flying (ap (λ (f : Flights). flights_of f.flying) (sym c.flights.ensures)) (c.in-Some.ticket, c.in-Some.field-0-1.now) (sym c.in-Some.ensures)

pub returns-in-None : goal.returns-in-None
returns-in-None c = λ tree.
    nothing_flies (core_over c.args.world.now tree) c.flights.result.now.flying (ap (λ (f : Flights). flights_of f.flying) (sym c.flights.ensures)) (sym c.in-None.ensures)
