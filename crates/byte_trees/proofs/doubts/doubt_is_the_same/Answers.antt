-- Outcome by outcome.
use Rattle.byte_trees.proofs.Lasting.{doubt_same}
use Rattle.byte_trees.proofs.Touching.{writes_touch}
use Rattle.byte_trees.proofs.doubts.doubt_is_the_same.Goals as goal

pub returns : goal.returns
returns c = record { same = doubt_same; touch = writes_touch }
