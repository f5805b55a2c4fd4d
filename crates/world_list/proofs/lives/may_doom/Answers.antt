-- Of a server as it is asked; of the host never.
use Rattle.std.proofs.Common.{sym, ◌∙◌}
use Rattle.core_definitions.specs.Cores.{writes}
use Rattle.world_state.specs.States.{core_at}
use Rattle.core_definitions.specs.WriteGuards.{may_doom}
use Rattle.world_list.proofs.AskedNext.{never_doomed, of_asked}
use Rattle.world_list.proofs.lives.may_doom.Goals as goal

pub returns-then-is_server : goal.returns-then-is_server
returns-then-is_server c = c.may_doom.ensures ∙ of_asked (λ s a. may_doom (core_at s) a (writes (core_at s) a)) c.asked.result c.args.world.now c.args.a.0 c.asked.ensures.world c.asked.ensures.number

pub returns-else-is_server : goal.returns-else-is_server
returns-else-is_server c = c.if-is_server.false ∙ never_doomed (core_at c.args.world.now) c.args.a.0 (sym c.is_server.ensures ∙ c.if-is_server.false) (writes (core_at c.args.world.now) c.args.a.0)
