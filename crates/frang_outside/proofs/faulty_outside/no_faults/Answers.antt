-- No party has a fault.
use Rattle.frang_outside.proofs.Zeros.{slice_index_zeros}
use Rattle.frang_outside.proofs.faulty_outside.no_faults.Goals as goal

pub returns : goal.returns
returns c = slice_index_zeros 256
