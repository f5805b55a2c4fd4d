-- By two runs, with and without the entries, that are alike off the nodes which these changed.
use Rattle.tree_laws.proofs.RemovingLaws.{unseen_can_go, recovery_leaves_legal}
use Rattle.tree_laws.proofs.trees.what_nobody_saw_can_go.Goals as goal

pub returns-clause-unseen : goal.returns-clause-unseen
returns-clause-unseen c = unseen_can_go

pub returns-clause-recovery : goal.returns-clause-recovery
returns-clause-recovery c = recovery_leaves_legal
