-- At most 64.
use Rattle.std.proofs.Common.{arith}
use Rattle.bitmap_block.proofs.Digits.{weight_bounds}
use Rattle.bitmap_block.proofs.state.weight.Goals as goal

pub pow-requires : goal.pow-requires
pow-requires c = omega (arith, weight_bounds c.args.place c.requires)

pub returns-clause-positive : goal.returns-clause-positive
returns-clause-positive c = omega (arith, (weight_bounds c.args.place c.requires).0, c.pow.ensures)
