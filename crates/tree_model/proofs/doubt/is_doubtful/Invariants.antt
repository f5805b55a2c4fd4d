use Rattle.std.proofs.Common.{◌≡◌, false, length}
use Rattle.tree_definitions.specs.Removal.{is_doubtful}
use Rattle.tree_model.proofs.doubt.is_doubtful.Given as goal

abbrev pub invariant-loop-rest : goal.invariant-loop-rest
invariant-loop-rest l =
    is_doubtful l.sought.server.0 l.sought.birth l.sought.sector l.doubtful l.tree l.rest ≡ is_doubtful l.sought.server.0 l.sought.birth l.sought.sector false l.opening l.fn.list

abbrev pub decreases-loop-rest : goal.decreases-loop-rest
decreases-loop-rest l = length l.rest
