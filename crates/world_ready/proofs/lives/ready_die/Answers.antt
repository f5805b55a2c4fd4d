-- By the guard, with its line.
use Rattle.std.proofs.Common.{sym, ◌∙◌}
use Rattle.world_ready.proofs.LifeReady.{dies, dies_not}
use Rattle.world_ready.proofs.lives.ready_die.Goals as goal

pub returns-then-not-may_die : goal.returns-then-not-may_die
returns-then-not-may_die c = dies_not c.args.world.now c.args.a (sym c.may_die.ensures ∙ c.if-not-may_die.true)

pub returns : goal.returns
returns c = dies c.args.world.now c.args.a c.in_ok-text.text (sym c.may_die.ensures ∙ c.if-not-may_die.false) c.in_ok-text.ensures
