-- By the laws of one bit.
use Rattle.disk_definitions.proofs.Bits.{bit_set, bit_cleared}
use Rattle.bitmap_block.proofs.inodes.with_inode.Goals as goal

pub returns-then-used-clause-inodes : goal.returns-then-used-clause-inodes
returns-then-used-clause-inodes c k h = rw c.if-used.true (bit_set c.args.bitmap.now.inodes c.args.j k c.requires h)

pub returns-else-used-clause-inodes : goal.returns-else-used-clause-inodes
returns-else-used-clause-inodes c k h = rw c.if-used.false (bit_cleared c.args.bitmap.now.inodes c.args.j k c.requires h)
