use Rattle.std.proofs.Common.{◌≡◌, suc, true, false, length, ap, arith, rules}
use Rattle.sector_bytes.specs.Bytes.{are_zero}
use Rattle.image_file.specs.Entries.{written_blocks}
use Rattle.image_file.proofs.CountingWritten.{fewer_blocks, same_blocks}
use Rattle.image_file.proofs.write.count_blocks.Goals as goal

pub overflow_add-count : goal.overflow_add-count
overflow_add-count c =
    let n : length c.loop-block.block-iterator ≡ suc (length c.next.new.self) = ap length c.in-Some.ensures.steps in
    omega (arith, n, c.loop-block.invariant.fits)

pub loop-block-preserved-then-not-is_blank : goal.loop-block-preserved-then-not-is_blank
loop-block-preserved-then-not-is_blank c =
    let z : are_zero c.in-Some.block.now ≡ false = first_of (search rules, cc) in
    let n : length c.loop-block.block-iterator ≡ suc (length c.next.new.self) = ap length c.in-Some.ensures.steps in
    let w : length (written_blocks c.loop-block.block-iterator) ≡ suc (length (written_blocks c.next.new.self)) =
    fewer_blocks c.loop-block.block-iterator c.next.new.self c.in-Some.block.now c.in-Some.ensures.steps z in
    record {
      can = tt;
      ends = tt;
      counted = omega (arith, w, c.loop-block.invariant.counted);
      fits = omega (arith, n, c.loop-block.invariant.fits);
    }

pub loop-block-preserved : goal.loop-block-preserved
loop-block-preserved c =
    let z : are_zero c.in-Some.block.now ≡ true = first_of (search rules, cc) in
    let n : length c.loop-block.block-iterator ≡ suc (length c.next.new.self) = ap length c.in-Some.ensures.steps in
    let w : length (written_blocks c.loop-block.block-iterator) ≡ length (written_blocks c.next.new.self) =
    same_blocks c.loop-block.block-iterator c.next.new.self c.in-Some.block.now c.in-Some.ensures.steps z in
    record {
      can = tt;
      ends = tt;
      counted = omega (arith, w, c.loop-block.invariant.counted);
      fits = omega (arith, n, c.loop-block.invariant.fits);
    }
