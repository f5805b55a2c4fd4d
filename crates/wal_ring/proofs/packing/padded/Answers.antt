-- What lies behind the bytes are zeros.
use Rattle.std.proofs.Common.{length, ◌++◌, ap}
use Rattle.std.proofs.lemmas.List.{drop-replicate}
use Rattle.sector_bytes.specs.Bytes.{zeros}
use Rattle.wal_ring.proofs.packing.padded.Goals as goal

pub returns : goal.returns
unfolding zeros
returns c = rw c.copy_from_slice.ensures.after (ap (λ rest. c.args.bytes.now ++ rest) (drop-replicate (length c.args.bytes.now) 488 0))
