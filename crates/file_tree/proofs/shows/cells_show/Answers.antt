use Rattle.std.proofs.Common.{◌<◌, length, drop, sym, ◌∙◌, arith}
use Rattle.std.proofs.lemmas.List.{length-drop}
use Rattle.file_tree.proofs.Showing.{too_few}
use Rattle.file_tree.proofs.shows.cells_show.Goals as goal

pub returns-in-empty : goal.returns-in-empty
returns-in-empty c =
    let cells = drop c.loop-cell.cell-index c.args.cells.now in
    let less : length c.loop-cell.left.now < length cells = simp length-drop (omega arith) in
    sym (too_few cells c.loop-cell.left.now less) ∙ c.loop-cell.invariant
