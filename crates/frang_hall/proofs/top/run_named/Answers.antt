-- What the lock's type kept is what ran.
use Rattle.std.proofs.Common.{subst, sym}
use Rattle.frang_hall.specs.Finishing.{Ran}
use Rattle.frang_hall.proofs.Turns.{ran}
use Rattle.frang_hall.proofs.top.run_named.Goals as goal

pub returns : goal.returns
returns g c =
    subst (λ o. Ran g.N.Naming.outset.setting g.N.Naming.outset.outside (g.O.Outside.state o) c.run_threads-hall.result.1) (sym c.outside.ensures)
    (ran (g.M.Machine.stands c.run_threads-hall.result.0.world) g.N.Naming.outset c.run_threads-hall.result.0.over c.run_threads-hall.result.0.said
    (g.O.Outside.state c.run_threads-hall.result.0.out) c.run_threads-hall.result.1 c.run_threads-hall.ensures.kept c.run_threads-hall.ensures.finish)
