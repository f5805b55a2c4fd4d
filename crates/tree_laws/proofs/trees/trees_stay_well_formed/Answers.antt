-- By what each change of a tree does to its order and to the balance of names and links.
use Rattle.tree_laws.proofs.FreshLaws.{fresh_well, walkable}
use Rattle.tree_laws.proofs.StepsLaws.{apply_keeps, perform_keeps, after_keeps, after_all_keeps, are_new_after, new_stays}
use Rattle.tree_laws.proofs.trees.trees_stay_well_formed.Goals as goal

pub returns-clause-fresh : goal.returns-clause-fresh
returns-clause-fresh c = fresh_well

pub returns-clause-apply : goal.returns-clause-apply
returns-clause-apply c = apply_keeps

pub returns-clause-perform : goal.returns-clause-perform
returns-clause-perform c = perform_keeps

pub returns-clause-step : goal.returns-clause-step
returns-clause-step c = after_keeps

pub returns-clause-steps : goal.returns-clause-steps
returns-clause-steps c = after_all_keeps

pub returns-clause-numbers : goal.returns-clause-numbers
returns-clause-numbers c = are_new_after

pub returns-clause-nodes : goal.returns-clause-nodes
returns-clause-nodes c = new_stays

pub returns-clause-walkable : goal.returns-clause-walkable
returns-clause-walkable c = walkable
