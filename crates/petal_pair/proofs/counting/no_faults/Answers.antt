-- No party has a fault.
use Rattle.petal_pair.proofs.Zeros.{slice_index_zeros}
use Rattle.petal_pair.proofs.counting.no_faults.Goals as goal

pub returns : goal.returns
returns c = slice_index_zeros 256
