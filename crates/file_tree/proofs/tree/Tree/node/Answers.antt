-- Every symbolic link of a tree has a target, and so the node of a birth.
use Rattle.std.proofs.Common.{subst}
use Rattle.file_tree.specs.Proper.{HasTargets}
use Rattle.file_tree.proofs.Targets.{node_has_target}
use Rattle.file_tree.proofs.tree.Tree.node.Goals as goal

pub returns-clause-target : goal.returns-clause-target
returns-clause-target c = node_has_target c.args.self.now c.args.birth (subst HasTargets c.self.view_is c.self.invariant.1)
