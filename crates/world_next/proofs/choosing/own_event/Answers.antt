-- What the server does may happen, and nothing is said where it does nothing.
use Rattle.core_definitions.specs.Cores.{Core}
use Rattle.world_next.specs.NoEvents.{NoneOfServer}
use Rattle.world_next.specs.Over.{core_over}
use Rattle.world_next.proofs.Joined.{picks_more}
use Rattle.world_next.proofs.choosing.own_event.Goals as goal

pub returns-then-is_server : goal.returns-then-is_server
returns-then-is_server c = λ tree.
    picks_more (core_over c.args.world.now tree) (λ (d : Core). NoneOfServer d c.args.worker.0) (λ (d : Core). Unit {0}) c.server_event.result (λ none. tt) (c.server_event.ensures tree)
