-- The next line, once the tree is read.
use Rattle.std.proofs.Common.{sym, subst, ◌∙◌}
use Rattle.world_ready.specs.Trees.{IsTextAt}
use Rattle.world_ready.proofs.TreeReady.{shows_it, shows_not, shows_unread}
use Rattle.world_ready.proofs.ends.ready_show.Goals as goal

pub returns-then-not-branch-clause-made : goal.returns-then-not-branch-clause-made
returns-then-not-branch-clause-made c =
    shows_unread c.args.world.now c.args.tree.now c.has_next.new.tree c.has_next.ensures.reading c.args.place (sym c.in_ok-has_next.ensures.read ∙ c.if-not-branch.true)

pub returns-in-Some-clause-made : goal.returns-in-Some-clause-made
returns-in-Some-clause-made c =
    shows_it c.args.world.now c.args.tree.now c.has_next.new.tree c.has_next.ensures.reading c.requires.disk (sym c.in_ok-has_next.ensures.read ∙ c.if-not-branch.false) c.args.place c.in-Some.text
    (subst (IsTextAt c.has_next.new.tree c.args.place) c.in-Some.is c.in_ok-text.ensures) (c.in_ok-has_next.ensures.made c.if-not-branch.false)

pub returns-in-None-clause-made : goal.returns-in-None-clause-made
returns-in-None-clause-made c =
    shows_not c.args.world.now c.args.tree.now c.has_next.new.tree c.has_next.ensures.reading c.requires.disk (sym c.in_ok-has_next.ensures.read ∙ c.if-not-branch.false) c.args.place (subst (IsTextAt c.has_next.new.tree c.args.place) c.in-None.is c.in_ok-text.ensures)
