-- The first of writes that ascend has the least ticket.
use Rattle.std.proofs.Common.{◌≤◌, IfSome, sym, subst}
use Rattle.std.specs.List.{All}
use Rattle.std.specs.Map.{keys_of}
use Rattle.petal_disk.proofs.TicketOrder.{first_is_least}
use Rattle.petal_disk.proofs.flight.Flight.first.Goals as goal

pub returns-in-Some-clause-least : goal.returns-in-Some-clause-least
returns-in-Some-clause-least c =
    let writes = c.self.inside.writes.writes in
    subst (λ flight. All (λ ticket. c.in-Some.ticket.0 ≤ ticket.0) (keys_of flight.writes)) c.self.view_is
    (subst (λ o. IfSome o (λ write. All (λ ticket. write.0.0 ≤ ticket.0) (keys_of writes))) (sym c.in-Some.ensures.writes) (first_is_least writes c.self.invariant.flights.ascending))
