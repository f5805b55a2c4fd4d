-- As the machine in it makes the arrival, which says nothing.
use Rattle.watched_hall.proofs.Machines.{counted_arrives}
use Rattle.watched_hall.proofs.counted.CountedMachine.arrive.Goals as goal

pub returns-clause-arrives : goal.returns-clause-arrives
returns-clause-arrives g c =
    counted_arrives (g.M.Machine.stands c.args.self.now.machine) (g.M.Machine.stands c.arrive.new.self) c.args.self.now.figures c.args.ticket.0 (g.O.Outside.state c.args.out.now) (g.O.Outside.state c.arrive.new.out)
    c.arrive.result c.arrive.ensures.arrives
