use Rattle.std.proofs.Common.{◌≡◌, length}
use Rattle.tree_definitions.specs.Removal.{none_known}
use Rattle.history_rules.proofs.known.none_known.Given as goal

abbrev pub invariant-loop-rest : goal.invariant-loop-rest
invariant-loop-rest l = none_known l.server.0 l.stalled l.tree l.rest ≡ none_known l.server.0 l.initial.stalled l.initial.tree l.fn.list

abbrev pub decreases-loop-rest : goal.decreases-loop-rest
decreases-loop-rest l = length l.rest
