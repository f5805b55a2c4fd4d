use Rattle.std.proofs.Common.{◌≡◌, ◌++◌, length}
use Rattle.tree_definitions.specs.Removal.{left}
use Rattle.tree_model.proofs.settle.push_left.Given as goal

abbrev pub invariant-loop-rest : goal.invariant-loop-rest
invariant-loop-rest l = l.kept.items ++ left l.server.0 l.keeps.0 l.tree l.rest ≡ l.initial.kept.items ++ left l.server.0 l.keeps.0 l.initial.tree l.fn.list

abbrev pub decreases-loop-rest : goal.decreases-loop-rest
decreases-loop-rest l = length l.rest
