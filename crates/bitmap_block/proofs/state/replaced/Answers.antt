-- By the laws of the states in a byte.
use Rattle.disk_definitions.proofs.Digits.{digit_fits, digit_replaced}
use Rattle.bitmap_block.proofs.Digits.{digit_part_fits}
use Rattle.bitmap_block.proofs.state.replaced.Goals as goal

pub overflow_mul-result-2 : goal.overflow_mul-result-2
overflow_mul-result-2 c = record { fits = rw (c.weight-weight.ensures.power) (digit_part_fits c.args.place c.args.state c.requires.place c.requires.state) }

pub overflow_add-result : goal.overflow_add-result
overflow_add-result c = record { fits = rw (c.weight-weight.ensures.power) (digit_fits c.args.place c.args.byte c.args.state c.requires.place c.ranges.byte.fits c.requires.state) }

pub returns : goal.returns
returns c k h = rw (c.weight-weight.ensures.power) (digit_replaced c.args.place c.args.byte c.args.state c.requires.place c.requires.state k h)
