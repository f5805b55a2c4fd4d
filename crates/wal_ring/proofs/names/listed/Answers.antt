-- A sector more is listed in each turn.
use Rattle.std.proofs.Common.{arith}
use Rattle.std.proofs.lemmas.Grind.{common_steps}
use Rattle.wal_ring.proofs.names.listed.Goals as goal

pub loop-sector-preserved : goal.loop-sector-preserved
loop-sector-preserved c = grind (arith, common_steps)
