-- The board shows what the record of the hall comes to.
use Rattle.std.proofs.Common.{◌∙◌, ap, sym, subst}
use Rattle.frang_board.specs.Boards.{Posted}
use Rattle.watched_hall.specs.Desks.{IsPostedOn}
use Rattle.watched_hall.proofs.Desks.{begins, zeros_least}
use Rattle.watched_hall.proofs.desk.Desk.new.Goals as goal

pub invariant_of-result : goal.invariant_of-result
invariant_of-result g c =
    let hall = c.args.hall in
    let on = subst (IsPostedOn c.args.writer c.post.new.writer) (c.figures-figures.ensures ∙ ap (λ m. m.figures) c.machine.ensures) c.post.ensures in
    let board = on.board ∙ ap (λ (w : Posted). w.board) c.requires.writer in (
      begins (g.M.Machine.stands hall.world.machine) hall.world.figures g.N.Naming.outset hall.over hall.said (g.O.Outside.state hall.out) c.args.writer c.post.new.writer c.shows.ensures
          (ap (λ (w : Posted). w.figures) c.requires.writer) on,
      board,
      subst g.B.BoardNaming.is_board (sym board) c.requires.board,
    )
