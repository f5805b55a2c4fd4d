-- By the nodes that each change of a tree allows.
use Rattle.tree_laws.proofs.KindsLaws.{kinds_agree, apply_keeps_kinds, steps_keep_kinds, kinds_can_be_told}
use Rattle.tree_laws.proofs.trees.a_birth_tells_the_kind.Goals as goal

pub returns-clause-agree : goal.returns-clause-agree
returns-clause-agree c = kinds_agree

pub returns-clause-apply : goal.returns-clause-apply
returns-clause-apply c = apply_keeps_kinds

pub returns-clause-steps : goal.returns-clause-steps
returns-clause-steps c = steps_keep_kinds

pub returns-clause-told : goal.returns-clause-told
returns-clause-told c = kinds_can_be_told
