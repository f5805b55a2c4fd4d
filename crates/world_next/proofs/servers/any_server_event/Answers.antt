-- The first server that does something, and where there is none, none does.
use Rattle.std.proofs.Common.{Bool, ◌||◌, ◌==◌, below_more, arith, ap, subst}
use Rattle.std.proofs.lemmas.Bool.{lt-ltb}
use Rattle.frang_base.specs.declared.limits.TheConstants.{SERVERS}
use Rattle.core_definitions.specs.Scripts.{host_party}
use Rattle.world_next.specs.NoEvents.{NoneOfServer}
use Rattle.world_next.specs.Over.{core_over}
use Rattle.world_next.specs.Picking.{PicksOf}
use Rattle.world_next.proofs.servers.any_server_event.Goals as goal

pub server_event-requires-clause-fresh : goal.server_event-requires-clause-fresh
server_event-requires-clause-fresh c = c.requires.fresh c.loop-a.a (ap (λ (b : Bool). b || (c.loop-a.a == host_party)) (lt-ltb c.loop-a.a SERVERS (omega (arith, c.loop-a-test.true))))

pub loop-a-preserved : goal.loop-a-preserved
loop-a-preserved c = λ tree.
    let s = c.args.world.now in
    below_more (NoneOfServer (core_over s tree)) c.loop-a.a (c.loop-a.invariant tree) (subst (PicksOf s (λ d. NoneOfServer d c.loop-a.a)) c.in_default.is c.server_event.ensures tree)

pub returns : goal.returns
returns c = λ tree a small. c.loop-a.invariant tree a (omega arith)
