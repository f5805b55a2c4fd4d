-- As the machine in it picks.
use Rattle.watched_hall.proofs.Machines.{counted_drawn, counted_none, counted_same, counted_some}
use Rattle.watched_hall.proofs.counted.CountedMachine.pick_drawn.Goals as goal

pub returns-clause-same : goal.returns-clause-same
returns-clause-same g c = counted_same (g.M.Machine.stands c.args.self.now.machine) (g.M.Machine.stands c.pick_drawn.new.self) c.args.self.now.figures c.pick_drawn.ensures.same

pub returns-clause-some : goal.returns-clause-some
returns-clause-some g c = counted_some (g.M.Machine.stands c.pick_drawn.new.self) c.args.self.now.figures c.pick_drawn.result c.pick_drawn.ensures.some

pub returns-clause-drawn : goal.returns-clause-drawn
returns-clause-drawn g c = counted_drawn (g.M.Machine.stands c.pick_drawn.new.self) c.args.self.now.figures c.args.draw c.pick_drawn.result c.pick_drawn.ensures.drawn

pub returns-clause-none : goal.returns-clause-none
returns-clause-none g c = λ none. counted_none (g.M.Machine.stands c.pick_drawn.new.self) c.args.self.now.figures (c.pick_drawn.ensures.none none)
