-- Segment after segment.
use Rattle.std.proofs.Common.{◌||◌, ℕ, Bool, sym, arith}
use Rattle.disk_definitions.specs.Held.{state_in}
use Rattle.disk_definitions.specs.Picks.{is_in_state}
use Rattle.disk_definitions.proofs.PickCounts.{count_zero}
use Rattle.op_data.proofs.Counting.{segment_counted}
use Rattle.op_data.proofs.room.directory_blocks.Goals as goal

pub loop-k-init : goal.loop-k-init
loop-k-init c = record { few = omega arith; is = sym (count_zero (λ b. is_in_state 2 (state_in c.args.held.now b) || is_in_state 3 (state_in c.args.held.now b))) }

pub loop-k-preserved : goal.loop-k-preserved
loop-k-preserved c =
    let f : ℕ → Bool = λ b. is_in_state 2 (state_in c.args.held.now b) || is_in_state 3 (state_in c.args.held.now b) in
    record {
      few = omega (arith, c.loop-k.invariant.few, c.directory_blocks_at-blocks.ensures.few);
      is = segment_counted f c.loop-k.k c.loop-k.blocks c.directory_blocks_at-blocks.result c.loop-k.invariant.is c.directory_blocks_at-blocks.ensures.is;
    }
