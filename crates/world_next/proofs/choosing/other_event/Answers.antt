-- What one finds may happen, and where the last finds nothing, none did.
use Rattle.std.proofs.Common.{subst}
use Rattle.core_definitions.specs.Cores.{Core}
use Rattle.hall_runs.specs.Asking.{event_of}
use Rattle.world_next.specs.NoEvents.{NoneBeside, NoneOfFlights, NoneOther}
use Rattle.world_next.specs.Over.{core_over}
use Rattle.world_next.specs.Picking.{Picks}
use Rattle.world_next.proofs.Joined.{picks_any}
use Rattle.world_next.proofs.Together.{besides}
use Rattle.world_next.proofs.choosing.other_event.Goals as goal

pub returns-in-Some : goal.returns-in-Some
returns-in-Some c =
    let tree = c.args.tree.now in
    (besides (core_over c.args.world.now tree) (event_of c.in-Some.event) (c.in-Some.ensures tree)).going

pub returns : goal.returns
returns c =
    let tree = c.args.tree.now in
    let core : Core = core_over c.args.world.now tree in
    picks_any core NoneBeside NoneOther c.event_beside.result
    (λ none. record { flights = subst (Picks core NoneOfFlights) c.in_default-flight_event.is (c.flight_event.ensures tree); beside = none })
    c.event_beside.ensures
