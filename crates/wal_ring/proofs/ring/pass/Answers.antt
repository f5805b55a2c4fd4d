-- Where the first number is not acknowledged, nothing more is passed.
use Rattle.std.proofs.Common.{arith}
use Rattle.std.proofs.lemmas.Grind.{common_steps}
use Rattle.wal_ring.proofs.ring.pass.Goals as goal

pub returns-clause-passes : goal.returns-clause-passes
returns-clause-passes c = grind (arith, common_steps)
