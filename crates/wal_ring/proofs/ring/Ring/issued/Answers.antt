-- The first waiting sector has the number that was asked for.
use Rattle.std.proofs.Common.{arith}
use Rattle.std.proofs.lemmas.Grind.{common_steps}
use Rattle.wal_ring.proofs.ring.Ring.issued.Goals as goal

pub prove-unreachable-requires : goal.prove-unreachable-requires
prove-unreachable-requires c = grind (arith, common_steps)
