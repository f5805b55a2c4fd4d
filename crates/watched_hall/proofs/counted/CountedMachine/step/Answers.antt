-- As the machine in it makes the event, whose line is counted.
use Rattle.std.proofs.Common.{sym, subst}
use Rattle.frang_hall.specs.Machines.{Stepping}
use Rattle.watched_hall.specs.Counting.{Counts}
use Rattle.watched_hall.proofs.Machines.{counted_steps}
use Rattle.watched_hall.proofs.counted.CountedMachine.step.Goals as goal

pub returns : goal.returns
returns g c =
    let before = g.M.Machine.stands c.args.self.now.machine in
    let after = g.M.Machine.stands c.step.new.self in
    subst (λ f. Stepping (Counts before c.args.self.now.figures) (Counts after f) c.args.event.now c.args.heard.now) (sym c.figures_after-self.ensures)
    (counted_steps before after c.args.self.now.figures c.args.event.now c.args.heard.now c.step.ensures)
