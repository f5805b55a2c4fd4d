-- One entry on both sides.
use Rattle.core_histories.proofs.Finished.{finishes_told}
use Rattle.core_histories.proofs.told.ends_of_recoveries_are_told.Goals as goal

pub returns : goal.returns
returns c = record { ends = finishes_told }
