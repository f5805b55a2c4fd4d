use Rattle.std.proofs.Common.{rules}
use Rattle.crossbeam_utils.specs.Seq.{cell_view}
use Rattle.frang_board.proofs.Moves.{copies_as}
use Rattle.frang_board.proofs.board.Reader.split.Goals as goal

pub split_pass-pass-requires : goal.split_pass-pass-requires
split_pass-pass-requires c = (search rules, (search rules, (search rules, copies_as c.self.inside.pass.id (cell_view c.self.inside.pass) c.self.invariant.0)))
