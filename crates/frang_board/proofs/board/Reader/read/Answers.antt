use Rattle.std.proofs.Common.{rules}
use Rattle.crossbeam_utils.specs.Seq.{cell_view}
use Rattle.frang_board.proofs.Moves.{looks_as, still_reading}
use Rattle.frang_board.proofs.board.Reader.read.Goals as goal

pub load_as-self-inside-requires : goal.load_as-self-inside-requires
load_as-self-inside-requires g c = (search rules, (search rules, (search rules, looks_as c.self.inside.pass.id (cell_view c.self.inside.pass) c.self.invariant.0)))

pub invariant_of-self : goal.invariant_of-self
invariant_of-self g c = still_reading (cell_view c.self.inside.pass) (cell_view c.load_as-self-inside.new.pass) c.load_as-self-inside.result c.self.invariant.0 c.load_as-self-inside.ensures.rule.0
