-- A new hall keeps the run that hasn't begun.
use Rattle.frang_hall.proofs.Turns.{kept_new}
use Rattle.frang_hall.proofs.hall.Hall.new.Goals as goal

pub invariant_of-result : goal.invariant_of-result
invariant_of-result g c = kept_new (g.M.Machine.stands c.args.world) g.N.Naming.outset (g.O.Outside.state c.args.out) c.requires.outset c.requires.first
