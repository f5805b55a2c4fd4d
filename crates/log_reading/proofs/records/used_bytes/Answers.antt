-- The bytes of a sector more, and at the end those of all.
use Rattle.std.proofs.Common.{arith}
use Rattle.std.proofs.lemmas.Grind.{common_steps}
use Rattle.log_reading.proofs.records.used_bytes.Goals as goal

pub loop-sector-preserved : goal.loop-sector-preserved
loop-sector-preserved c = grind (arith, common_steps)

pub returns : goal.returns
returns c = grind (arith, common_steps)
