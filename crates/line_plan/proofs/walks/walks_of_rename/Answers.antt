-- By whether one of the paths is the root.
use Rattle.line_plan.proofs.Renames.{from_root, to_root, of_both}
use Rattle.line_plan.proofs.walks.walks_of_rename.Goals as goal

pub returns-then-is_empty : goal.returns-then-is_empty
returns-then-is_empty c = from_root c.args.path.now c.args.to.now c.is_empty.result c.is_empty.ensures c.if-is_empty.true

pub returns-then-is_empty-2 : goal.returns-then-is_empty-2
returns-then-is_empty-2 c = to_root c.args.path.now c.args.to.now c.is_empty-2.result c.is_empty-2.ensures c.if-is_empty-2.true

pub returns : goal.returns
returns c = of_both c.args.path.now c.args.to.now c.is_empty.result c.is_empty-2.result c.is_empty.ensures c.is_empty-2.ensures c.if-is_empty.false c.if-is_empty-2.false
