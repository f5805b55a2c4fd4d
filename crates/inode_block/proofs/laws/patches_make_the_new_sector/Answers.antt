-- The laws of patches, at the bytes of inodes.
use Rattle.disk_definitions.proofs.InodeChanges.{inode_patched, inode_edited}
use Rattle.inode_block.proofs.laws.patches_make_the_new_sector.Goals as goal

pub returns : goal.returns
returns c = record { laid = inode_patched; edited = inode_edited }
