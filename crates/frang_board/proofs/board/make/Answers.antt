use Rattle.std.proofs.Common.{rules, [], ◌∷◌, subst, sym}
use Rattle.crossbeam_utils.specs.Seq.{cell_view}
use Rattle.frang_board.specs.declared.figures.Figures.{Figures}
use Rattle.frang_board.specs.Rule.{writing, Shows}
use Rattle.frang_board.proofs.Moves.{begins, gives}
use Rattle.frang_board.proofs.board.make.Goals as goal

pub ruled-requires : goal.ruled-requires
ruled-requires c = (search rules, (search rules, subst (λ (f : Figures). Shows f (writing [] [] ∷ [])) (sym c.zeros.ensures) begins))

pub split_pass-other-requires : goal.split_pass-other-requires
split_pass-other-requires c = (search rules, (search rules, (search rules, gives c.in_ok-cell.pass.id (cell_view c.in_ok-cell.pass))))
