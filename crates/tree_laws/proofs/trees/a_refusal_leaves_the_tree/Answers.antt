-- By the cases of apply.
use Rattle.tree_laws.proofs.Refusals.{refusals_leave, looks_leave}
use Rattle.tree_laws.proofs.Resolving.{performed_refusals_leave, performed_looks_leave}
use Rattle.tree_laws.proofs.trees.a_refusal_leaves_the_tree.Goals as goal

pub returns-clause-refusals : goal.returns-clause-refusals
returns-clause-refusals c = refusals_leave

pub returns-clause-looks : goal.returns-clause-looks
returns-clause-looks c = looks_leave

pub returns-clause-performed : goal.returns-clause-performed
returns-clause-performed c = performed_refusals_leave

pub returns-clause-performed_looks : goal.returns-clause-performed_looks
returns-clause-performed_looks c = performed_looks_leave
