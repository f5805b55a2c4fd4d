-- Of a server as it is asked; the host clears none.
use Rattle.std.proofs.Common.{sym, ap, ◌∙◌, None, if◌then◌else◌}
use Rattle.core_definitions.specs.Cores.{stage}
use Rattle.world_state.specs.States.{core_at}
use Rattle.line_stages.specs.Stages.{cleared_next}
use Rattle.world_list.proofs.AskedNext.{of_asked}
use Rattle.world_list.proofs.lines.cleared_next.Goals as goal

pub returns-then-not-is_server : goal.returns-then-not-is_server
returns-then-not-is_server c = sym (ap (λ b. if b then cleared_next (stage (core_at c.args.world.now) c.args.a.0) else None) (sym c.is_server.ensures ∙ c.if-not-is_server.true))

pub returns : goal.returns
returns c =
    c.cleared_next.ensures ∙ of_asked (λ s a. cleared_next (stage (core_at s) a)) c.asked.result c.args.world.now c.args.a.0 c.asked.ensures.world c.asked.ensures.number
    ∙ sym (ap (λ b. if b then cleared_next (stage (core_at c.args.world.now) c.args.a.0) else None) (sym c.is_server.ensures ∙ c.if-not-is_server.false))
