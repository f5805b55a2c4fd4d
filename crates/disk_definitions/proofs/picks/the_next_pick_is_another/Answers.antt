-- Since what was taken no longer passes, and nothing below it did.
use Rattle.disk_definitions.proofs.NextLaws.{next_inode, next_large_block, next_for_bytes, next_for_a_directory}
use Rattle.disk_definitions.proofs.picks.the_next_pick_is_another.Goals as goal

pub returns-clause-inode : goal.returns-clause-inode
returns-clause-inode c = next_inode

pub returns-clause-large : goal.returns-clause-large
returns-clause-large c = next_large_block

pub returns-clause-bytes : goal.returns-clause-bytes
returns-clause-bytes c = next_for_bytes

pub returns-clause-directory : goal.returns-clause-directory
returns-clause-directory c = next_for_a_directory
