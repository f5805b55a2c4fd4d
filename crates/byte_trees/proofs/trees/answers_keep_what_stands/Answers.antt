-- Outcome by outcome.
use Rattle.byte_trees.proofs.After.{answers_keep}
use Rattle.byte_trees.proofs.Nodes.{sharp_stand}
use Rattle.byte_trees.proofs.trees.answers_keep_what_stands.Goals as goal

pub returns : goal.returns
returns c = record { sharp = sharp_stand; answers = answers_keep }
