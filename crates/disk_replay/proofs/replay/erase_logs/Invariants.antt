use Rattle.sector_bytes.specs.Sectors.{sectors_of, SameSectors}
use Rattle.disk_replay.specs.Laid.{erased}
use Rattle.disk_replay.proofs.replay.erase_logs.Given as goal

abbrev pub invariant-loop-n : goal.invariant-loop-n
invariant-loop-n l = SameSectors (sectors_of l.disk) (erased l.n (sectors_of l.fn.disk))
