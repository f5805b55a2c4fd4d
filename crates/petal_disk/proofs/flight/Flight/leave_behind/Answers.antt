-- None is counted of the server any more, and no put changes.
use Rattle.std.proofs.Common.{[], sym, subst, ap, ◌∙◌}
use Rattle.petal_disk.specs.Flights.{AreFlights, busy_with}
use Rattle.petal_disk.specs.Flying.{left_behind}
use Rattle.petal_disk.specs.Keeping.{AreCounted}
use Rattle.petal_disk.proofs.Counting.{AreCounted-left}
use Rattle.petal_disk.proofs.flight.Flight.leave_behind.Goals as goal

pub invariant_of-self : goal.invariant_of-self
invariant_of-self c =
    let server = c.args.server.0 in
    let flying = c.self.inside.writes.flying in
    let kept = c.self.invariant in
    record {
      flights = subst (λ writes. AreFlights (record { writes = writes; flying = []; next = c.self.inside.next; room = 0 })) (sym c.leave_behind.ensures.writes) kept.flights;
      ordered = kept.ordered;
      index = λ q. kept.index q ∙ sym (ap (λ writes. busy_with writes q) c.leave_behind.ensures.writes);
      counted = subst (AreCounted c.clear.new.self) (sym c.leave_behind.ensures.flying)
          (subst (λ counts. AreCounted counts (left_behind server flying)) (sym c.clear.ensures.counts) (AreCounted-left c.self.inside.counts flying kept.counted server c.clear.ensures.party));
    }
