-- As the machine in it lets it pass, which says nothing.
use Rattle.watched_hall.proofs.Machines.{counted_enters}
use Rattle.watched_hall.proofs.counted.CountedMachine.enter.Goals as goal

pub returns : goal.returns
returns g c = counted_enters (g.M.Machine.stands c.args.self.now.machine) (g.M.Machine.stands c.enter.new.self) c.args.self.now.figures c.args.server c.enter.ensures
