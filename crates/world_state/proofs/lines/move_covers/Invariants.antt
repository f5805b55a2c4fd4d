-- The writes moved by what is left of the moves are those moved by all.
use Rattle.std.proofs.Common.{◌≡◌, drop}
use Rattle.flight_laws.specs.Flights.{moved_all}
use Rattle.server_core.specs.Outcomes.{moves_of}
use Rattle.world_state.proofs.lines.move_covers.Given as goal

abbrev pub invariant-loop-one : goal.invariant-loop-one
invariant-loop-one l = record {
  flying : moved_all l.a.0 (moves_of (drop l.one-index l.moves)) l.flights.flying ≡ moved_all l.a.0 (moves_of l.moves) l.initial.flights.flying;
  next : l.flights.next ≡ l.initial.flights.next;
}
