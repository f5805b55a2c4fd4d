-- By the laws of the states in a byte.
use Rattle.std.proofs.Common.{◌≡◌, length, arith}
use Rattle.disk_definitions.proofs.Digits.{state_replaced}
use Rattle.bitmap_block.proofs.state.with_state.Goals as goal

pub returns-clause-states : goal.returns-clause-states
returns-clause-states c k h =
    let n : length c.args.bitmap.now.states ≡ 256 = omega arith in
    rw (← c.number_of.ensures) (state_replaced c.args.bitmap.now.states c.args.j k c.replaced.result c.number_of.result n c.requires c.replaced.ensures)
