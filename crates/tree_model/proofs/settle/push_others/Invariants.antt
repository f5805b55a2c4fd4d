use Rattle.std.proofs.Common.{◌≡◌, ◌++◌, not, filter, drop}
use Rattle.tree_definitions.specs.Removal.{is_of}
use Rattle.tree_model.proofs.settle.push_others.Given as goal

abbrev pub invariant-loop-step : goal.invariant-loop-step
invariant-loop-step l = l.kept.items ++ filter (λ t. not (is_of l.server.0 t)) (drop l.step-index l.steps) ≡ l.initial.kept.items ++ filter (λ t. not (is_of l.server.0 t)) l.steps
