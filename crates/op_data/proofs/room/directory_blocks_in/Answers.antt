-- Block after block.
use Rattle.std.proofs.Common.{◌≡◌, ◌≤◌, ◌==◌, ◌||◌, ℕ, Bool, sym, arith, rules}
use Rattle.disk_definitions.specs.Least.{one_if}
use Rattle.disk_definitions.proofs.PickCounts.{count_zero}
use Rattle.disk_definitions.specs.Bitmaps.{block_state}
use Rattle.op_data.proofs.Counting.{counted}
use Rattle.op_data.proofs.room.directory_blocks_in.Goals as goal

pub loop-j-init : goal.loop-j-init
loop-j-init c = record { few = omega arith; is = sym (count_zero (λ j. block_state c.args.bitmap.now j == 2 || block_state c.args.bitmap.now j == 3)) }

pub loop-j-preserved : goal.loop-j-preserved
loop-j-preserved c =
    let f : ℕ → Bool = λ j. block_state c.args.bitmap.now j == 2 || block_state c.args.bitmap.now j == 3 in
    let d : c.from-blocks.result ≡ one_if c.is_directory_block.result = search rules in
    let few : c.from-blocks.result ≤ 1 = search rules in
    record {
      few = omega (arith, c.loop-j.invariant.few);
      is = counted f c.loop-j.j c.loop-j.blocks c.from-blocks.result c.is_directory_block.result d c.is_directory_block.ensures c.loop-j.invariant.is;
    }
