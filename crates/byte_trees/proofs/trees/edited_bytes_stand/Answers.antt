-- Outcome by outcome.
use Rattle.byte_trees.proofs.Written.{large_stand, small_stand}
use Rattle.byte_trees.proofs.trees.edited_bytes_stand.Goals as goal

pub returns : goal.returns
returns c = record { small = small_stand; large = large_stand }
