-- By what the writes of the edits so far are.
use Rattle.std.proofs.Common.{arith}
use Rattle.std.proofs.lemmas.Grind.{common_steps}
use Rattle.edit_writing.proofs.bytes.byte_writes.Goals as goal

pub loop-edit-preserved : goal.loop-edit-preserved
loop-edit-preserved c = grind (arith, common_steps)

pub returns : goal.returns
returns c = grind (arith, common_steps)
