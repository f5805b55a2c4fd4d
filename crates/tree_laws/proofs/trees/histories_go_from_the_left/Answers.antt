-- By the lemmas on one item more.
use Rattle.std.proofs.Common.{[]}
use Rattle.tree_laws.proofs.HistoryLaws.{settled-push, settled-recovered, tree_of-push, is_legal-push, kept-push, kept-recovered, after_all-append, legal-append}
use Rattle.tree_laws.proofs.trees.histories_go_from_the_left.Goals as goal

pub returns-clause-entry : goal.returns-clause-entry
returns-clause-entry c = λ opening history e. settled-push opening [] history e

pub returns-clause-recovery : goal.returns-clause-recovery
returns-clause-recovery c = λ opening history server kept. settled-recovered opening [] history server kept

pub returns-clause-tree : goal.returns-clause-tree
returns-clause-tree c = tree_of-push

pub returns-clause-legal : goal.returns-clause-legal
returns-clause-legal c = is_legal-push

pub returns-clause-keeps : goal.returns-clause-keeps
returns-clause-keeps c = λ opening history e. kept-push opening.tree [] history e

pub returns-clause-recovery_keeps : goal.returns-clause-recovery_keeps
returns-clause-recovery_keeps c = λ opening history server kept. kept-recovered opening.tree [] history server kept

pub returns-clause-steps : goal.returns-clause-steps
returns-clause-steps c = after_all-append

pub returns-clause-parts : goal.returns-clause-parts
returns-clause-parts c = legal-append
