-- A turn goes on, and the board shows what its record comes to.
use Rattle.std.proofs.Common.{◌∙◌, ap, sym, subst}
use Rattle.frang_board.specs.Figures.{AtMost, last_of}
use Rattle.core_definitions.specs.Guards.{Can}
use Rattle.watched_hall.specs.Desks.{IsPostedOn}
use Rattle.watched_hall.proofs.Desks.{kept_on, turned_up, turns}
use Rattle.watched_hall.proofs.desk.DeskTurning.take_turn.Goals as goal

pub post-requires-clause-on : goal.post-requires-clause-on
post-requires-clause-on g c =
    let old = c.self.inside.hall in
    let new = c.turn-answer.new.self in
    let before = g.M.Machine.stands old.world.machine in
    let after = g.M.Machine.stands new.world.machine in
    let s = g.O.Outside.state old.out in
    let t = g.O.Outside.state new.out in
    let list = c.self.inside.writer.figures in
    let to = turns before after old.world.figures new.world.figures g.N.Naming.outset old.given old.over new.over old.said new.said s t Can c.args.worker c.turn-answer.result list c.self.invariant.0 c.turn-answer.ensures.turned in
    subst (AtMost (last_of list)) (sym (c.figures-figures.ensures ∙ ap (λ m. m.figures) c.machine.ensures))
    (turned_up before after old.world.figures new.world.figures g.N.Naming.outset old.given old.over new.over old.said new.said s t list to)

pub invariant_of-self : goal.invariant_of-self
invariant_of-self g c =
    let old = c.self.inside.hall in
    let new = c.turn-answer.new.self in
    let before = g.M.Machine.stands old.world.machine in
    let after = g.M.Machine.stands new.world.machine in
    let s = g.O.Outside.state old.out in
    let t = g.O.Outside.state new.out in
    let writer = c.self.inside.writer in
    let to = turns before after old.world.figures new.world.figures g.N.Naming.outset old.given old.over new.over old.said new.said s t Can c.args.worker c.turn-answer.result writer.figures c.self.invariant.0 c.turn-answer.ensures.turned in
    let on = subst (IsPostedOn writer c.post.new.writer) (c.figures-figures.ensures ∙ ap (λ m. m.figures) c.machine.ensures) c.post.ensures in (
      kept_on before after old.world.figures new.world.figures g.N.Naming.outset old.given old.over new.over old.said new.said s t writer c.post.new.writer to on,
      on.board ∙ c.self.invariant.1,
      subst g.B.BoardNaming.is_board (sym on.board) c.self.invariant.2,
    )
