-- By the counts of each operation.
use Rattle.tree_laws.proofs.CountLaws.{makes_one, frees_one, keeps_nodes}
use Rattle.tree_laws.proofs.ShapeLaws.{blocks_never_fall}
use Rattle.tree_laws.proofs.trees.nodes_come_and_go_one_at_a_time.Goals as goal

pub returns-clause-made : goal.returns-clause-made
returns-clause-made c = λ tree o birth when m w new. makes_one tree w o birth when m new

pub returns-clause-freed : goal.returns-clause-freed
returns-clause-freed c = λ tree o birth when m w. frees_one tree w o birth when m

pub returns-clause-kept : goal.returns-clause-kept
returns-clause-kept c = λ tree o birth when m w. keeps_nodes tree w o birth when m

pub returns-clause-blocks : goal.returns-clause-blocks
returns-clause-blocks c = blocks_never_fall
