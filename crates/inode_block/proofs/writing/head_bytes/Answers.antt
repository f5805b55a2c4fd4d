-- Each field is written at its place, over zeros.
use Rattle.std.proofs.Common.{refl}
use Rattle.inode_block.proofs.writing.head_bytes.Goals as goal

pub returns : goal.returns
returns c = rw (c.write_u64-3.ensures, c.write_u64-2.ensures, c.write_u16-2.ensures, c.write_u16.ensures, c.write_u64.ensures) refl
