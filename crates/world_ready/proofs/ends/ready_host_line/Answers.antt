-- By the guard, with its line.
use Rattle.std.proofs.Common.{sym, ◌∙◌}
use Rattle.world_ready.proofs.EndReady.{hosts, hosts_not}
use Rattle.world_ready.proofs.ends.ready_host_line.Goals as goal

pub returns-then-not-may_host : goal.returns-then-not-may_host
returns-then-not-may_host c = hosts_not c.args.world.now c.args.number (sym c.may_host.ensures ∙ c.if-not-may_host.true)

pub returns : goal.returns
returns c = hosts c.args.world.now c.args.number c.in_ok-text.text (sym c.may_host.ensures ∙ c.if-not-may_host.false) c.in_ok-text.ensures
