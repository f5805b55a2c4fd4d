use Rattle.std.proofs.Common.{◌≡◌, drop}
use Rattle.tree_definitions.specs.Touched.{touched_later}
use Rattle.history_rules.proofs.known.touched_later.Given as goal

abbrev pub invariant-loop-step : goal.invariant-loop-step
invariant-loop-step l = touched_later l.server.0 l.nodes l.tree (drop l.step-index l.list) ≡ touched_later l.server.0 l.nodes l.initial.tree l.list
