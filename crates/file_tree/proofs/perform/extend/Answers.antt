-- One birth more, and those that are left, are those of before.
use Rattle.std.proofs.Common.{arith}
use Rattle.std.proofs.lemmas.Grind.{common_steps}
use Rattle.file_tree.proofs.perform.extend.Goals as goal

pub loop-birth-preserved : goal.loop-birth-preserved
loop-birth-preserved c = grind (arith, common_steps)

pub returns : goal.returns
returns c = grind (arith, common_steps)
