-- The patches are those between the written blocks.
use Rattle.disk_definitions.specs.Inodes.{inode_bytes}
use Rattle.sector_bytes.proofs.PatchLaws.{same_patches}
use Rattle.inode_block.proofs.differences.patches.Goals as goal

pub returns : goal.returns
returns c =
    same_patches c.patches_of.result c.block_of.result c.block_of-2.result (inode_bytes c.args.old.now) (inode_bytes c.args.new.now) c.block_of.ensures c.block_of-2.ensures c.patches_of.ensures
