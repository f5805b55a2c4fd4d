-- At the place of the next line, and nowhere else.
use Rattle.world_ready.proofs.TreeReady.{said_all, said_elsewhere, said_here}
use Rattle.world_ready.proofs.ends.said_at.Goals as goal

pub returns-then-shown-place : goal.returns-then-shown-place
returns-then-shown-place c = said_elsewhere c.args.tree.now c.args.place c.shown.result c.shown.ensures c.if-shown-place.true

pub returns-in_ok-text-in-Some : goal.returns-in_ok-text-in-Some
returns-in_ok-text-in-Some c =
    said_here c.args.tree.now c.args.place c.shown.result c.shown.ensures c.in-Some.line.now c.in_ok-text-in-Some.text c.if-shown-place.false c.in-Some.ensures c.in_ok-text-in-Some.ensures

pub returns-in-None : goal.returns-in-None
returns-in-None c = said_all c.args.tree.now c.args.place c.shown.result c.shown.ensures c.if-shown-place.false c.in-None.ensures
