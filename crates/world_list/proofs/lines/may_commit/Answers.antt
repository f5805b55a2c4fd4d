-- Of a server as it is asked; of the host never.
use Rattle.std.proofs.Common.{sym, ◌∙◌}
use Rattle.core_definitions.specs.Cores.{stage}
use Rattle.world_state.specs.States.{core_at}
use Rattle.core_definitions.specs.LineGuards.{may_commit}
use Rattle.world_list.proofs.AskedNext.{never_commits, of_asked}
use Rattle.world_list.proofs.lines.may_commit.Goals as goal

pub returns-then-is_server : goal.returns-then-is_server
returns-then-is_server c = c.may_commit.ensures ∙ of_asked (λ s a. may_commit (core_at s) a (stage (core_at s) a)) c.asked.result c.args.world.now c.args.a.0 c.asked.ensures.world c.asked.ensures.number

pub returns-else-is_server : goal.returns-else-is_server
returns-else-is_server c = c.if-is_server.false ∙ never_commits (core_at c.args.world.now) c.args.a.0 (sym c.is_server.ensures ∙ c.if-is_server.false) (stage (core_at c.args.world.now) c.args.a.0)
