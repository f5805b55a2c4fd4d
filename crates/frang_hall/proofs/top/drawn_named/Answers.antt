-- What the hall's type kept is what ran.
use Rattle.std.proofs.Common.{subst, sym}
use Rattle.frang_hall.specs.Finishing.{Ran}
use Rattle.frang_hall.proofs.Turns.{ran}
use Rattle.frang_hall.proofs.top.drawn_named.Goals as goal

pub returns : goal.returns
returns g c =
    subst (λ o. Ran g.N.Naming.outset.setting g.N.Naming.outset.outside (g.O.Outside.state o) c.run_order-finish.result) (sym c.outside.ensures)
    (ran (g.M.Machine.stands c.run_order-finish.new.hall.world) g.N.Naming.outset c.run_order-finish.new.hall.over c.run_order-finish.new.hall.said
    (g.O.Outside.state c.run_order-finish.new.hall.out) c.run_order-finish.result c.run_order-finish.ensures.kept c.run_order-finish.ensures.finish)
