-- Outcome by outcome.
use Rattle.byte_trees.proofs.Back.{steps_back}
use Rattle.byte_trees.proofs.doubts.what_was_known_before.Goals as goal

pub returns : goal.returns
returns c = record { back = steps_back }
