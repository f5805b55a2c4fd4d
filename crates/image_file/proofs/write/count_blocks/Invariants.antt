use Rattle.std.proofs.Common.{◌≡◌, ◌+◌, ◌<◌, ◌^◌, length}
use Rattle.std.specs.Map.{values_of}
use Rattle.image_file.specs.Entries.{written_blocks}
use Rattle.image_file.proofs.write.count_blocks.Given as goal

-- the iterator of a map's values is seen as the values that it has left
abbrev pub invariant-loop-block : goal.invariant-loop-block
invariant-loop-block l = record {
  can : (goal.iterator-loop-block).can_next l.block-iterator;
  ends : (goal.iterator-loop-block).is_finite l.block-iterator;
  counted : l.count + length (written_blocks l.block-iterator) ≡ length (written_blocks (values_of l.blocks.entries));
  fits : l.count + length l.block-iterator < 2 ^ 63;
}
