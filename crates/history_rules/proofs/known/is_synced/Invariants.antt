use Rattle.std.proofs.Common.{◌≡◌, drop}
use Rattle.tree_definitions.specs.Touched.{is_synced}
use Rattle.history_rules.proofs.known.is_synced.Given as goal

abbrev pub invariant-loop-step : goal.invariant-loop-step
invariant-loop-step l = is_synced l.server.0 l.stalled (drop l.step-index l.list) ≡ is_synced l.server.0 l.initial.stalled l.list
