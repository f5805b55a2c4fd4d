-- Where the last group finds nothing, none did.
use Rattle.std.proofs.Common.{refl, subst}
use Rattle.core_definitions.specs.Cores.{Core}
use Rattle.core_definitions.specs.Scripts.{host_party}
use Rattle.world_next.specs.NoEvents.{NoneBegins, NoneBeside, NoneCloses, NoneOfHost, NoneOfServers, NoneOfTree}
use Rattle.world_next.specs.Over.{core_over}
use Rattle.world_next.specs.Picking.{PicksOf}
use Rattle.world_next.proofs.Joined.{picks_more}
use Rattle.world_next.proofs.choosing.event_beside.Goals as goal

pub host_event-requires-clause-fresh : goal.host_event-requires-clause-fresh
host_event-requires-clause-fresh c = (c.requires.fresh.parties host_party refl).recovery

pub returns : goal.returns
returns c =
    let s = c.args.world.now in
    let tree = c.args.tree.now in
    let core : Core = core_over s tree in
    picks_more core NoneOfTree NoneBeside c.tree_event.result
    (λ none. record {
      servers = subst (PicksOf s NoneOfServers) c.in_default.is c.any_server_event.ensures tree;
      begins = subst (PicksOf s NoneBegins) c.in_default-begin_recovery.is c.begin_recovery.ensures tree;
      host = subst (PicksOf s NoneOfHost) c.in_default-host_event.is c.host_event.ensures tree;
      closes = subst (PicksOf s NoneCloses) c.in_default-close_event.is c.close_event.ensures tree;
      tree = none;
    })
    c.tree_event.ensures
