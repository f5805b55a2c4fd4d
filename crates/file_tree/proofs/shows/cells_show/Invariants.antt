use Rattle.std.proofs.Common.{◌≡◌, drop}
use Rattle.tree_definitions.specs.History.{cells_show}
use Rattle.file_tree.proofs.shows.cells_show.Given as goal

abbrev pub invariant-loop-cell : goal.invariant-loop-cell
invariant-loop-cell l = cells_show (drop l.cell-index l.cells) l.left ≡ cells_show l.cells l.bytes
