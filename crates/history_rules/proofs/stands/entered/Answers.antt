-- A reply that leaves the tree fits, and one that tells too few or too many blocks doesn't.
use Rattle.std.proofs.Common.{sym, ◌∙◌}
use Rattle.history_rules.proofs.Standing.{left_fits, untold_unfit}
use Rattle.history_rules.proofs.stands.entered.Goals as goal

pub returns-then-leaves_tree-clause-is : goal.returns-then-leaves_tree-clause-is
returns-then-leaves_tree-clause-is c = λ n is. left_fits c.args.tree.now n c.args.entry.now (sym c.leaves_tree.ensures ∙ c.if-leaves_tree.true)

pub returns-then-not-may_tell-clause-is : goal.returns-then-not-may_tell-clause-is
returns-then-not-may_tell-clause-is c = λ n is.
    untold_unfit c.args.tree.now n c.args.entry.now (sym c.leaves_tree.ensures ∙ c.if-leaves_tree.false) (sym (c.may_tell.ensures n is) ∙ c.if-not-may_tell.true)
