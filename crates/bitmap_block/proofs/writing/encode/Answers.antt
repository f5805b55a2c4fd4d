-- The bytes of the fields, one after the other.
use Rattle.std.proofs.Common.{arith, ◌≡◌, length}
use Rattle.bitmap_block.proofs.Written.{fields_written}
use Rattle.bitmap_block.proofs.writing.encode.Goals as goal

pub returns : goal.returns
returns c =
    let n : length c.args.value.now.states ≡ 256 = omega arith in
    fields_written c.args.value.now _ _ _ _ c.write_u64.ensures c.write_u64-2.ensures c.copy_from_slice.ensures.after n c.from.ensures
