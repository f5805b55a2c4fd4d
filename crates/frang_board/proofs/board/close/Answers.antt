use Rattle.std.proofs.Common.{◌≡◌, rules, ◌∷◌, sym, subst, ap, ◌∙◌}
use Rattle.crossbeam_utils.specs.Seq.{cell_view}
use Rattle.frang_board.specs.declared.rule.View.{View}
use Rattle.frang_board.specs.Rule.{reading, taken_in}
use Rattle.frang_board.proofs.Moves.{moves_off_as, takes_in_as, compares_as}
use Rattle.frang_board.proofs.board.close.Goals as goal

pub split_pass-whole-requires : goal.split_pass-whole-requires
split_pass-whole-requires g c = (search rules, (search rules, (search rules, moves_off_as c.reader.inside.pass.id (cell_view c.reader.inside.pass) c.reader.invariant.0)))

pub join_pass-requires : goal.join_pass-requires
join_pass-requires g c =
    let theirs = subst (λ (v : View). v ≡ reading v.list v.joined) (sym c.split_pass-whole.ensures.given.1) c.reader.invariant.0 in
    (search rules, (search rules, (search rules, takes_in_as c.writer.inside.pass.id (cell_view c.writer.inside.pass) c.split_pass-whole.result.id (cell_view c.split_pass-whole.result) theirs)))

pub load_as-requires : goal.load_as-requires
load_as-requires g c =
    let u = cell_view c.split_pass-whole.result in
    (search rules, (search rules, (search rules, compares_as c.join_pass.new.pass.id (cell_view c.join_pass.new.pass) (cell_view c.writer.inside.pass).list (u.list ∷ u.joined) (c.join_pass.ensures.1 ∙ ap (λ (x : View). taken_in x u) c.writer.invariant.0))))
