-- Outcome by outcome.
use Rattle.stop_laws.proofs.Replayed.{a_stop_leaves}
use Rattle.stop_laws.proofs.byte_laws.a_stop_leaves_the_tree.Goals as goal

pub returns : goal.returns
returns c = record { stands = a_stop_leaves }
