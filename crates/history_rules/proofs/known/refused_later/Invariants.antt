use Rattle.std.proofs.Common.{◌≡◌, drop}
use Rattle.tree_definitions.specs.Touched.{refused_later}
use Rattle.history_rules.proofs.known.refused_later.Given as goal

abbrev pub invariant-loop-step : goal.invariant-loop-step
invariant-loop-step l = refused_later l.server.0 (drop l.step-index l.list) ≡ refused_later l.server.0 l.list
