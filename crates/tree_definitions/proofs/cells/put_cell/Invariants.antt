use Rattle.std.proofs.Common.{◌≡◌, replicate}
use Rattle.std.proofs.Math.Seq.{paste}
use Rattle.tree_definitions.proofs.cells.put_cell.Given as goal

abbrev pub invariant-loop-i : goal.invariant-loop-i
invariant-loop-i l = l.cells ≡ paste l.initial.cells l.off (replicate l.i l.cell) l.i
