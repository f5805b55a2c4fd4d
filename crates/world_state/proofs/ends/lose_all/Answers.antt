-- The first goes each time, until there is none.
use Rattle.std.proofs.Common.{IsSome, length, sym, subst, ap, arith}
use Rattle.petal_disk.specs.Flights.{Writes, write_at}
use Rattle.world_state.proofs.Losing.{first_flies, first_goes, none_left}
use Rattle.world_state.proofs.ends.lose_all.Goals as goal

pub lose-requires : goal.lose-requires
lose-requires c =
    let P : Writes → Type 0 = λ writes. IsSome (write_at writes c.in-Some.ticket.0) in
    subst P (sym c.count-count.ensures.puts) (first_flies c.loop-ticket.flights.flying c.in-Some.ticket _ (sym c.in-Some.ensures))

pub loop-ticket-smaller : goal.loop-ticket-smaller
loop-ticket-smaller c = omega (arith, ap length c.lose.ensures.flying, first_goes c.loop-ticket.flights.flying c.in-Some.ticket _ (sym c.in-Some.ensures))

pub returns-clause-flights : goal.returns-clause-flights
returns-clause-flights c = none_left c.loop-ticket.flights.flying (sym c.in_default.ensures)
