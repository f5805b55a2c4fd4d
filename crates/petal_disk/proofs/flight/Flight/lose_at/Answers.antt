-- The write at the place goes, or the next place is looked at.
use Rattle.std.proofs.Common.{IsSome, length, sym, subst, ap, ◌∙◌, arith}
use Rattle.std.specs.List.Sorted.{IsStrictlySortedBy}
use Rattle.std.specs.Map.{keys_of}
use Rattle.petal_disk.specs.Flights.{ticket_cmp, write_at}
use Rattle.petal_disk.specs.Flying.{lost_from}
use Rattle.petal_disk.proofs.Changing.{keys-puts}
use Rattle.petal_disk.proofs.Losing.{further, one_less, put_there, taken_out}
use Rattle.petal_disk.proofs.flight.Flight.lose_at.Goals as goal

pub lose-requires : goal.lose-requires
lose-requires c =
    subst (λ writes. IsSome (write_at writes c.in-Some.ticket.0)) (sym c.count.ensures.puts) (put_there c.args.server.0 c.args.self.now.flying c.args.i c.in-Some.ticket (sym c.in-Some.ensures))

pub returns-in-Some-clause-flying : goal.returns-in-Some-clause-flying
returns-in-Some-clause-flying c =
    let sorted = subst (IsStrictlySortedBy ticket_cmp) (ap keys_of c.count.ensures.puts ∙ keys-puts c.args.self.now.flying) c.count.ensures.flights.ascending in
    ap (lost_from c.args.server.0 c.args.i) c.lose.ensures.flying ∙ taken_out c.args.server.0 c.args.self.now.flying c.args.i c.in-Some.ticket sorted (sym c.in-Some.ensures)

pub returns-in-Some-clause-left : goal.returns-in-Some-clause-left
returns-in-Some-clause-left c =
    let sorted = subst (IsStrictlySortedBy ticket_cmp) (ap keys_of c.count.ensures.puts ∙ keys-puts c.args.self.now.flying) c.count.ensures.flights.ascending in
    omega (arith, ap length c.lose.ensures.flying, one_less c.args.server.0 c.args.self.now.flying c.args.i c.in-Some.ticket sorted (sym c.in-Some.ensures))

pub returns-in-None-clause-flying : goal.returns-in-None-clause-flying
returns-in-None-clause-flying c = further c.args.server.0 c.args.self.now.flying c.args.i (sym c.in-None.ensures)
