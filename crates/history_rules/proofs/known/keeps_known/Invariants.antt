use Rattle.std.proofs.Common.{◌≡◌, false, length}
use Rattle.tree_definitions.specs.Removal.{keeps_known}
use Rattle.history_rules.proofs.known.keeps_known.Given as goal

abbrev pub invariant-loop-rest : goal.invariant-loop-rest
invariant-loop-rest l = keeps_known l.server.0 l.keeps.0 l.stalled l.tree l.rest ≡ keeps_known l.server.0 l.keeps.0 false l.opening l.fn.list

abbrev pub decreases-loop-rest : goal.decreases-loop-rest
decreases-loop-rest l = length l.rest
