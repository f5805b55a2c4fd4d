-- All writes so far are by servers that are stalled or dead.
use Rattle.std.proofs.Common.{◌≡◌, true, take}
use Rattle.std.specs.List.{list_all}
use Rattle.core_definitions.specs.Guards.{is_by_gone}
use Rattle.core_definitions.specs.WriteGuards.{is_flight}
use Rattle.sector_bytes.specs.SectorMaps.{value_at}
use Rattle.world_state.specs.States.{core_at}
use Rattle.world_ready.proofs.Gone.{tickets}
use Rattle.world_ready.proofs.clock.are_all_by_gone.Given as goal

abbrev pub invariant-loop-i : goal.invariant-loop-i
invariant-loop-i l = list_all (λ ticket. is_flight (is_by_gone (core_at l.world)) (value_at (core_at l.world).flights ticket)) (take l.i (tickets l.world.flights.flying)) ≡ true
