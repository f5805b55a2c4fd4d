-- Once all lines of the tree are said.
use Rattle.std.proofs.Common.{sym, ◌∙◌}
use Rattle.world_ready.proofs.TreeReady.{ends_it, ends_not, ends_unread}
use Rattle.world_ready.proofs.ends.ready_end.Goals as goal

pub returns-then-not-branch-clause-made : goal.returns-then-not-branch-clause-made
returns-then-not-branch-clause-made c =
    ends_unread c.args.world.now c.args.tree.now c.has_next.new.tree c.has_next.ensures.reading (sym c.in_ok-has_next.ensures.read ∙ c.if-not-branch.true)

pub returns-in-Some-clause-made : goal.returns-in-Some-clause-made
returns-in-Some-clause-made c =
    ends_not c.args.world.now c.args.tree.now c.has_next.new.tree c.has_next.ensures.reading c.requires.disk (sym c.in_ok-has_next.ensures.read ∙ c.if-not-branch.false) c.in-Some.field-0.now (sym c.in-Some.ensures)

pub returns-in_ok-text-in-None-clause-made : goal.returns-in_ok-text-in-None-clause-made
returns-in_ok-text-in-None-clause-made c =
    ends_it c.args.world.now c.args.tree.now c.has_next.new.tree c.has_next.ensures.reading c.requires.disk (sym c.in_ok-has_next.ensures.read ∙ c.if-not-branch.false) c.in_ok-text-in-None.text c.requires.said
    (sym c.in-None.ensures) c.in_ok-text-in-None.ensures
