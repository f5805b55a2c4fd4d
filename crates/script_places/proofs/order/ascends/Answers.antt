-- The lines behind one that isn't below the least number ascend from the next number on.
use Rattle.std.proofs.Common.{arith}
use Rattle.script_places.proofs.Ascending.{any_from, next_kept}
use Rattle.script_places.proofs.order.ascends.Goals as goal

pub loop-line-init : goal.loop-line-init
loop-line-init c = any_from c.args.lines.now

pub loop-line-preserved : goal.loop-line-preserved
loop-line-preserved c =
    next_kept c.args.lines.now c.loop-line.line-index c.loop-line.least c.from-number.result c.line-item.result
    (omega arith) c.line-item.is c.from-number.ensures c.if-number-least.false c.loop-line.invariant
