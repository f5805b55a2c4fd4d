-- A server as it is asked, or the host.
use Rattle.std.proofs.Common.{sym, ap, ◌∙◌}
use Rattle.core_definitions.specs.Cores.{writes}
use Rattle.core_definitions.specs.WriteGuards.{may_issue}
use Rattle.world_list.proofs.AskedNext.{of_asked}
use Rattle.world_list.proofs.IssuesListed.{host_is}
use Rattle.world_list.proofs.issues.writer.Goals as goal
use Rattle.world_state.specs.States.{core_at}

pub returns-then-is_server : goal.returns-then-is_server
returns-then-is_server c sector = of_asked (λ s a. may_issue (core_at s) a sector (writes (core_at s) a)) c.asked.result c.args.world.now c.args.a.0 c.asked.ensures.world c.asked.ensures.number

pub returns-else-is_server : goal.returns-else-is_server
returns-else-is_server c sector =
    ap (λ a. may_issue (core_at c.args.world.now) a sector (writes (core_at c.args.world.now) a)) (sym (host_is c.args.a.0 c.requires.party (sym c.is_server.ensures ∙ c.if-is_server.false)))
