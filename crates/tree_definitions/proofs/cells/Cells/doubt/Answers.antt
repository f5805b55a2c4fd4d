use Rattle.std.proofs.Common.{◌≡◌, arith}
use Rattle.std.proofs.lemmas.Grind.{common_steps}
use Rattle.tree_definitions.specs.History.{doubted_cells}
use Rattle.tree_definitions.proofs.CellLaws.{doubted_over}
use Rattle.tree_definitions.proofs.cells.Cells.doubt.Goals as goal

pub returns : goal.returns
returns c =
    let cells = c.self.inside.cells.items in
    let all : c.put_cell.new.cells ≡ doubted_cells cells c.args.from c.args.count = grind (arith, common_steps, doubted_over cells c.args.from c.args.count c.min-off.result c.min-len.result) in
    grind (arith, common_steps, all)
