-- Outcome by outcome.
use Rattle.byte_trees.proofs.Whole.{stands_with_its_bytes}
use Rattle.byte_trees.proofs.trees.a_disk_stands_with_its_bytes.Goals as goal

pub returns : goal.returns
returns c = record { stands = stands_with_its_bytes }
