-- The host's next line by its guard, and no other.
use Rattle.std.proofs.Common.{sym, ◌∙◌}
use Rattle.core_laws.proofs.Guarding.{host_can}
use Rattle.world_next.specs.Over.{core_over}
use Rattle.world_next.proofs.Ending.{no_line_but, no_line_without}
use Rattle.world_next.proofs.ends.host_line_event.Goals as goal

pub returns-then-may_host : goal.returns-then-may_host
returns-then-may_host c = λ tree. host_can (core_over c.args.world.now tree) c.in-Some.line.now.number (sym c.may_host.ensures ∙ c.if-may_host.true)

pub returns-else-may_host : goal.returns-else-may_host
returns-else-may_host c = λ tree. no_line_but (core_over c.args.world.now tree) c.in-Some.line.now (sym c.in-Some.ensures) (sym c.may_host.ensures ∙ c.if-may_host.false)

pub returns-in-None : goal.returns-in-None
returns-in-None c = λ tree. no_line_without (core_over c.args.world.now tree) (sym c.in-None.ensures)
