-- The definition's zeros are as many zeros.
use Rattle.sector_bytes.specs.Bytes.{zeros}
use Rattle.opening.proofs.fresh.root_inode_block.Goals as goal

pub returns : goal.returns
unfolding zeros
returns c = c.encode.ensures
