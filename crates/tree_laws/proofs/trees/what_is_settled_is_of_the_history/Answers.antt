-- By the recursion of the removal.
use Rattle.tree_laws.proofs.SettlingLaws.{settled_is_of, settles, removes, lost_is_of}
use Rattle.tree_laws.proofs.trees.what_is_settled_is_of_the_history.Goals as goal

pub returns-clause-entries : goal.returns-clause-entries
returns-clause-entries c = settled_is_of

pub returns-clause-whole : goal.returns-clause-whole
returns-clause-whole c = settles

pub returns-clause-removed : goal.returns-clause-removed
returns-clause-removed c = removes

pub returns-clause-lost : goal.returns-clause-lost
returns-clause-lost c = lost_is_of
