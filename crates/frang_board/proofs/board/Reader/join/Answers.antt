use Rattle.std.proofs.Common.{◌≡◌, rules, sym, subst}
use Rattle.crossbeam_utils.specs.Seq.{cell_view}
use Rattle.frang_board.specs.declared.rule.View.{View}
use Rattle.frang_board.specs.Rule.{reading}
use Rattle.frang_board.proofs.Moves.{moves_off_as, takes_in_as}
use Rattle.frang_board.proofs.board.Reader.join.Goals as goal

pub split_pass-whole-requires : goal.split_pass-whole-requires
split_pass-whole-requires c = (search rules, (search rules, (search rules, moves_off_as c.other.inside.pass.id (cell_view c.other.inside.pass) c.other.invariant.0)))

pub join_pass-requires : goal.join_pass-requires
join_pass-requires c =
    let theirs = subst (λ (v : View). v ≡ reading v.list v.joined) (sym c.split_pass-whole.ensures.given.1) c.other.invariant.0 in
    (search rules, (search rules, (search rules, takes_in_as c.self.inside.pass.id (cell_view c.self.inside.pass) c.split_pass-whole.result.id (cell_view c.split_pass-whole.result) theirs)))
