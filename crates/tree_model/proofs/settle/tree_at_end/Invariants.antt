use Rattle.std.proofs.Common.{◌≡◌, drop}
use Rattle.tree_definitions.specs.History.{after_all}
use Rattle.tree_model.proofs.settle.tree_at_end.Given as goal

abbrev pub invariant-loop-step : goal.invariant-loop-step
invariant-loop-step l = after_all l.tree (drop l.step-index l.list) ≡ after_all l.opening l.list
