-- By the law on a recovery's end.
use Rattle.std.proofs.Common.{IsTrue}
use Rattle.sector_world.proofs.Bytes.{finish_known, recovered_known}
use Rattle.sector_world.proofs.histories.doubtless_bytes.Goals as goal

pub returns : goal.returns
returns c = λ first durable s d n P v h only ops g o. recovered_known first s d (durable d) n v h (finish_known first durable s d n (λ a x. IsTrue (P a x)) v only h ops g o)
