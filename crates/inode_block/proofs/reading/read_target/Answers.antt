-- The target is the rest of the block.
use Rattle.std.proofs.Common.{◌∙◌}
use Rattle.disk_definitions.proofs.WrittenFields.{rest_of}
use Rattle.inode_block.proofs.reading.read_target.Goals as goal

pub returns : goal.returns
returns c = c.copy_from_slice.ensures.after ∙ rest_of 128 384 c.args.from.now c.told-from
