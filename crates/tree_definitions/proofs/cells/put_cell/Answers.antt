use Rattle.std.proofs.Common.{◌+◌, slice_set, ◌∙◌, ap, arith}
use Rattle.std.proofs.lemmas.List.Edits.{fill_from_more}
use Rattle.tree_definitions.proofs.cells.put_cell.Goals as goal

pub loop-i-preserved : goal.loop-i-preserved
loop-i-preserved c =
    ap (λ cells. slice_set cells (c.args.off + c.loop-i.i) c.args.cell) c.loop-i.invariant
    ∙ fill_from_more c.args.cells.now c.args.off c.loop-i.i c.args.cell (omega arith)
