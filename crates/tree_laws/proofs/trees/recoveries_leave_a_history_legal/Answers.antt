-- By the settled lists.
use Rattle.tree_laws.proofs.WholeLaws.{settled_new, histories_stay, recovery_is_legal, legal_of_left}
use Rattle.tree_laws.proofs.trees.recoveries_leave_a_history_legal.Goals as goal

pub returns-clause-numbers : goal.returns-clause-numbers
returns-clause-numbers c = settled_new

pub returns-clause-trees : goal.returns-clause-trees
returns-clause-trees c = histories_stay

pub returns-clause-recovery : goal.returns-clause-recovery
returns-clause-recovery c = recovery_is_legal

pub returns-clause-left : goal.returns-clause-left
returns-clause-left c = legal_of_left
