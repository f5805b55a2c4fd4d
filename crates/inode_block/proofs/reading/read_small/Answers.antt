-- The numbers of the small blocks are read one after the other.
use Rattle.std.proofs.Common.{◌∙◌, drop, arith}
use borrow.Rule.Slice.PartMut.{mid_of}
use Rattle.disk_definitions.proofs.InodeLaws.{numbers_read, numbers_take}
use Rattle.inode_block.proofs.reading.read_small.Goals as goal

pub returns : goal.returns
returns c =
    numbers_read 16 (mid_of 32 64 c.args.from.now) c.read_u32_into.new.dst c.read_u32_into.auto.dst c.read_u32_into.ensures ∙ numbers_take 16 64 (drop 32 c.args.from.now) (omega arith)
