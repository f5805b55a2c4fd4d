-- The record is as it was.
use Rattle.std.proofs.Common.{sym, subst}
use Rattle.watched_hall.specs.Counting.{Counts}
use Rattle.watched_hall.specs.Desks.{IsDesk}
use Rattle.watched_hall.proofs.Desks.{passes}
use Rattle.watched_hall.proofs.desk.DeskTurning.pass.Goals as goal

pub invariant_of-self : goal.invariant_of-self
invariant_of-self g c =
    let old = c.self.inside.hall in
    let new = c.entered.new.self in
    let list = c.self.inside.writer.figures in (
      subst (λ h. IsDesk (Counts (g.M.Machine.stands h.world.machine) h.world.figures) g.N.Naming.outset h.over h.said (g.O.Outside.state h.out) list) (sym c.entered.ensures.same)
          (passes (g.M.Machine.stands old.world.machine) (g.M.Machine.stands new.world.machine) old.world.figures new.world.figures g.N.Naming.outset old.given c.args.line old.over old.said (g.O.Outside.state old.out) list
          c.self.invariant.0 c.entered.ensures.entered),
      c.self.invariant.1,
      c.self.invariant.2,
    )
