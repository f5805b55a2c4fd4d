-- What is picked is of its kinds, and where nothing is, only writes in flight are left.
use Rattle.core_definitions.specs.Cores.{Core}
use Rattle.hall_runs.specs.Asking.{event_of}
use Rattle.world_next.specs.NoEvents.{NoneBeside}
use Rattle.world_next.specs.Over.{core_over}
use Rattle.world_next.proofs.Deciding.{none_but_flights, picked_kind, picked_other}
use Rattle.world_next.proofs.Together.{IsBeside, besides}
use Rattle.world_next.proofs.choosing.next_beside_flights.Goals as goal

pub returns-in-Some : goal.returns-in-Some
returns-in-Some c =
    let tree = c.args.tree.now in
    let core : Core = core_over c.args.world.now tree in
    let picked : IsBeside core (event_of c.in-Some.event) = besides core (event_of c.in-Some.event) (c.in-Some.ensures tree) in
    record { some = picked.other; kind = picked.kind; none = λ is. absurd (cc) }

pub returns : goal.returns
returns c =
    let core : Core = core_over c.args.world.now c.args.tree.now in
    record {
      some = picked_other core NoneBeside c.event_beside.result c.event_beside.ensures;
      kind = picked_kind core NoneBeside c.event_beside.result c.event_beside.ensures;
      none = none_but_flights core c.event_beside.result c.event_beside.ensures;
    }
