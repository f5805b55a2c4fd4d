-- A write that is in flight is found.
use Rattle.std.proofs.Common.{IsSome, sym, subst, ap, ◌∙◌}
use Rattle.std.proofs.lemmas.Bool.{false≢true}
use Rattle.petal_disk.specs.Flights.{write_at}
use Rattle.petal_disk.proofs.flight.Flight.arriving.Goals as goal

pub unreachable-requires : goal.unreachable-requires
unreachable-requires c = false≢true (subst IsSome (ap (λ flight. write_at flight.writes c.args.t.0) (sym c.self.view_is) ∙ sym c.in-None.ensures.writes) c.requires)
