use Rattle.std.proofs.Common.{length}
use Rattle.file_tree.proofs.place.+passes.Given as goal

abbrev pub decreases-passes : goal.decreases-passes
decreases-passes l = length l.path.now
