-- One is there exactly where the server's count isn't 0.
use Rattle.std.proofs.Common.{nat_lt, ap, ◌∙◌}
use Rattle.petal_disk.specs.Flying.{has_flights}
use Rattle.petal_disk.proofs.Counting.{some_counted}
use Rattle.petal_disk.proofs.flight.Flight.has_flights.Goals as goal

pub returns : goal.returns
returns c =
    let server = c.args.server.0 in
    ap (nat_lt 0) (c.get.ensures.count ∙ c.self.invariant.counted.each server c.get.ensures.party) ∙ some_counted c.self.inside.writes.flying server ∙ ap (λ flight. has_flights flight.flying server) c.self.view_is
