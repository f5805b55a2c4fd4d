-- As the machine in it picks.
use Rattle.watched_hall.proofs.Machines.{counted_none, counted_same, counted_some}
use Rattle.watched_hall.proofs.counted.CountedMachine.pick.Goals as goal

pub returns-clause-same : goal.returns-clause-same
returns-clause-same g c = counted_same (g.M.Machine.stands c.args.self.now.machine) (g.M.Machine.stands c.pick.new.self) c.args.self.now.figures c.pick.ensures.same

pub returns-clause-some : goal.returns-clause-some
returns-clause-some g c = counted_some (g.M.Machine.stands c.pick.new.self) c.args.self.now.figures c.pick.result c.pick.ensures.some

pub returns-clause-none : goal.returns-clause-none
returns-clause-none g c = λ none. counted_none (g.M.Machine.stands c.pick.new.self) c.args.self.now.figures (c.pick.ensures.none none)
