use Rattle.std.proofs.Common.{rules, subst, sym, ◌∙◌}
use Rattle.crossbeam_utils.specs.Seq.{cell_view}
use Rattle.frang_board.specs.Figures.{AtMost}
use Rattle.frang_board.proofs.Order.{not_behind}
use Rattle.frang_board.proofs.Moves.{publishes_as, still_writing}
use Rattle.frang_board.proofs.board.Writer.publish.Goals as goal

pub swap_as-self-inside-requires : goal.swap_as-self-inside-requires
swap_as-self-inside-requires g c =
    let ahead : AtMost c.self.inside.last c.args.figures = not_behind c.args.figures c.self.inside.last (sym c.is_behind.ensures ∙ c.if-is_behind.false) in
    (search rules, (search rules, (search rules, publishes_as c.self.inside.pass.id (cell_view c.self.inside.pass) c.args.figures c.self.invariant.0 (subst (λ f. AtMost f c.args.figures) c.self.invariant.1 ahead))))

pub invariant_of-self : goal.invariant_of-self
invariant_of-self g c = still_writing (cell_view c.self.inside.pass) (cell_view c.swap_as-self-inside.new.pass) c.args.figures c.self.invariant.0 c.swap_as-self-inside.ensures.rule
