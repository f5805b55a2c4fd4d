-- By two runs, with and without the entries, that are alike but for doubt off the nodes which these changed.
use Rattle.tree_laws.proofs.LeavingLaws.{what_is_left_does_the_same}
use Rattle.tree_laws.proofs.RecoveringLaws.{what_a_recovery_leaves_does_the_same}
use Rattle.tree_laws.proofs.histories.what_is_left_does_what_it_did.Goals as goal

pub returns-clause-unseen : goal.returns-clause-unseen
returns-clause-unseen c = what_is_left_does_the_same

pub returns-clause-recovery : goal.returns-clause-recovery
returns-clause-recovery c = what_a_recovery_leaves_does_the_same
