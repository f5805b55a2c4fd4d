-- The element that is moved is the last of the one, and the first of the other reversed.
use Rattle.std.proofs.Common.{arith}
use Rattle.std.proofs.lemmas.Grind.{common_steps}
use Rattle.ordered_map.proofs.chunk.move_last.Goals as goal

pub returns-clause-moved : goal.returns-clause-moved
returns-clause-moved g c = grind (arith, common_steps)
