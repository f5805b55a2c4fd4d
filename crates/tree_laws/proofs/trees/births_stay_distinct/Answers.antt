-- By what an insertion and a removal leave in order.
use Rattle.tree_laws.proofs.Nodes.{node_with, node_without}
use Rattle.tree_laws.proofs.OrderLaws.{births_apply, births_after_all}
use Rattle.tree_laws.proofs.trees.births_stay_distinct.Goals as goal

pub returns-clause-put : goal.returns-clause-put
returns-clause-put c = node_with

pub returns-clause-taken : goal.returns-clause-taken
returns-clause-taken c = node_without

pub returns-clause-apply : goal.returns-clause-apply
returns-clause-apply c = births_apply

pub returns-clause-steps : goal.returns-clause-steps
returns-clause-steps c = births_after_all
