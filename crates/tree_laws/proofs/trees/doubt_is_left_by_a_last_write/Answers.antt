-- By the recursion along the list.
use Rattle.tree_laws.proofs.DoubtLaws.{doubt_has_a_last_write, a_last_write_leaves_doubt}
use Rattle.tree_laws.proofs.trees.doubt_is_left_by_a_last_write.Goals as goal

pub returns-clause-has : goal.returns-clause-has
returns-clause-has c = doubt_has_a_last_write

pub returns-clause-leaves : goal.returns-clause-leaves
returns-clause-leaves c = a_last_write_leaves_doubt
