use Rattle.std.proofs.Common.{drop}
use Rattle.history_rules.specs.Standing.{LeadsOn}
use Rattle.history_rules.proofs.stands.led.Given as goal

abbrev pub invariant-loop-step : goal.invariant-loop-step
invariant-loop-step l = LeadsOn l.opening l.steps l.now.tree l.now.ever (drop l.step-index l.steps)
