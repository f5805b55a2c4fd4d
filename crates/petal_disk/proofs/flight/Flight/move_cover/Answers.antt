-- The write that the sector's ticket finds is the one of the sector, and no put and no count changes.
use Rattle.std.proofs.Common.{[], ℕ, ◌==◌, sym, subst, ap, ◌∙◌}
use Rattle.std.specs.List.{IsDistinct}
use Rattle.std.specs.List.Sorted.{IsStrictlySortedBy}
use Rattle.std.specs.Map.{keys_of}
use Rattle.petal_disk.specs.Flights.{AreFlights, busy_with, sectors, ticket_cmp}
use Rattle.petal_disk.specs.Flying.{covered, moved}
use Rattle.petal_disk.specs.Keeping.{AreCounted}
use Rattle.petal_disk.proofs.Counting.{AreCounted-covered}
use Rattle.petal_disk.proofs.Changing.{by_ticket, flying_there, keys-puts, nowhere}
use Rattle.petal_disk.proofs.flight.Flight.move_cover.Goals as goal

pub cover-requires : goal.cover-requires
cover-requires c =
    let sector = c.args.sector.0 in
    flying_there sector c.self.inside.writes.flying c.in-Some.ticket
    (ap (λ ws. busy_with ws sector) (sym c.count.ensures.puts) ∙ ap (λ flight. busy_with flight.writes sector) c.self.view_is ∙ sym c.in-Some.ensures)

pub returns-in-Some-clause-flying : goal.returns-in-Some-clause-flying
returns-in-Some-clause-flying c =
    let sector = c.args.sector.0 in
    let flying = c.self.inside.writes.flying in
    let change = covered c.args.server.0 c.args.cover in
    let kept = c.self.invariant.flights in
    let busy = ap (λ ws. busy_with ws sector) (sym c.count.ensures.puts) ∙ ap (λ flight. busy_with flight.writes sector) c.self.view_is ∙ sym c.in-Some.ensures in
    let sorted = subst (IsStrictlySortedBy ticket_cmp) (ap keys_of c.count.ensures.puts ∙ keys-puts flying) kept.ascending in
    let apart = subst (λ ws. IsDistinct (λ (a b : ℕ). a == b) (sectors ws)) c.count.ensures.puts kept.apart in
    c.cover.ensures.flying ∙ by_ticket sector change flying c.in-Some.ticket sorted apart busy ∙ ap (λ flight. moved c.args.server.0 sector c.args.cover flight.flying) c.self.view_is

pub returns-in-None-clause-flying : goal.returns-in-None-clause-flying
returns-in-None-clause-flying c =
    let sector = c.args.sector.0 in
    let flying = c.self.inside.writes.flying in
    let busy = ap (λ ws. busy_with ws sector) (sym c.count.ensures.puts) ∙ ap (λ flight. busy_with flight.writes sector) c.self.view_is ∙ sym c.in-None.ensures in
    ap (λ flight. flight.flying) (sym c.self.view_is) ∙ sym (nowhere sector (covered c.args.server.0 c.args.cover) flying busy) ∙ ap (λ flight. moved c.args.server.0 sector c.args.cover flight.flying) c.self.view_is

pub invariant_of-self : goal.invariant_of-self
invariant_of-self c =
    let kept = c.self.invariant in
    record {
      flights = subst (λ writes. AreFlights (record { writes = writes; flying = []; next = c.self.inside.next; room = 0 })) (sym c.cover.ensures.writes) kept.flights;
      ordered = kept.ordered;
      index = λ q. kept.index q ∙ sym (ap (λ writes. busy_with writes q) c.cover.ensures.writes);
      counted = subst (AreCounted c.self.inside.counts) (sym c.cover.ensures.flying) (AreCounted-covered c.self.inside.counts c.self.inside.writes.flying kept.counted c.args.server.0 c.args.cover c.in-Some.ticket.0);
    }
