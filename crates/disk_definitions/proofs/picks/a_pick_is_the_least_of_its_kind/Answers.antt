-- By what a least number is.
use Rattle.disk_definitions.proofs.PickLaws.{an_inode, no_inode, a_large_block, no_large_block, for_bytes, none_for_bytes, for_a_directory, none_for_a_directory}
use Rattle.disk_definitions.proofs.picks.a_pick_is_the_least_of_its_kind.Goals as goal

pub returns-clause-inode : goal.returns-clause-inode
returns-clause-inode c = an_inode

pub returns-clause-no_inode : goal.returns-clause-no_inode
returns-clause-no_inode c = no_inode

pub returns-clause-large : goal.returns-clause-large
returns-clause-large c = a_large_block

pub returns-clause-no_large : goal.returns-clause-no_large
returns-clause-no_large c = no_large_block

pub returns-clause-bytes : goal.returns-clause-bytes
returns-clause-bytes c = for_bytes

pub returns-clause-no_bytes : goal.returns-clause-no_bytes
returns-clause-no_bytes c = none_for_bytes

pub returns-clause-directory : goal.returns-clause-directory
returns-clause-directory c = for_a_directory

pub returns-clause-no_directory : goal.returns-clause-no_directory
returns-clause-no_directory c = none_for_a_directory
