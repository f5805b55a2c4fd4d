-- The block has a sector of bytes.
use Rattle.std.proofs.Common.{arith}
use Rattle.std.proofs.lemmas.Grind.{common_steps}
use Rattle.wal_ring.proofs.ring.Ring.next_sector.Goals as goal

pub sector_write-requires : goal.sector_write-requires
sector_write-requires c = grind (arith, common_steps)
