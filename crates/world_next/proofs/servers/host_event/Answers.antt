-- Where the last kind finds nothing, none did.
use Rattle.std.proofs.Common.{ℕ, subst}
use Rattle.core_definitions.specs.EndGuards.{CanHost}
use Rattle.core_definitions.specs.Scripts.{host_party}
use Rattle.world_next.specs.NoEvents.{NoneOfHost, NoneOfRecovery, NoneOfWrites}
use Rattle.world_next.specs.Over.{core_over}
use Rattle.world_next.specs.Picking.{PicksOf}
use Rattle.world_next.proofs.Joined.{picks_more}
use Rattle.world_next.proofs.servers.host_event.Goals as goal

pub returns : goal.returns
returns c = λ tree.
    let s = c.args.world.now in
    picks_more (core_over s tree) (λ d. (number : ℕ) → CanHost d number → ⊥) NoneOfHost c.host_line_event.result
    (λ line. record {
      recovery = subst (PicksOf s (λ d. NoneOfRecovery d host_party)) c.in_default.is c.recovery_event.ensures tree;
      writes = subst (PicksOf s (λ d. NoneOfWrites d host_party)) c.in_default-host_write_event.is c.host_write_event.ensures tree;
      line = line;
    })
    (c.host_line_event.ensures tree)
