-- The one event that is enabled is the one at each draw's place.
use Rattle.std.proofs.Common.{sym, ◌∙◌, ap, subst}
use Rattle.core_definitions.specs.Events.{HostLine}
use Rattle.frang_hall.specs.Machines.{IsDrawn}
use Rattle.hall_tests.specs.Halting.{core_at}
use Rattle.hall_tests.proofs.OneLine.{drawn}
use Rattle.hall_tests.proofs.halting.HaltingMachine.pick_drawn.Goals as goal

pub returns-clause-drawn : goal.returns-clause-drawn
returns-clause-drawn c = λ r is. subst (λ k. IsDrawn c.args._draw k (HostLine 1)) (sym (is ∙ ap core_at c.if-self.false)) (drawn c.args._draw)
