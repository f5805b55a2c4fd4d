use Rattle.std.proofs.Common.{arith}
use Rattle.std.proofs.lemmas.Bool.Decides.{nat_tests}
use Rattle.tree_model.proofs.Comparing.{files_same}
use Rattle.tree_model.proofs.compare.same_shape.Goals as goal

pub returns-then-links-n : goal.returns-then-links-n
returns-then-links-n c = grind (arith, nat_tests, files_same c.in-File-File.cells c.in-File-File.others c.in-File-File.links c.in-File-File.n c.in-File-File.when c.in-File-File.at)
