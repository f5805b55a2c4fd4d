-- By the digits of bytes and the bits of words.
use Rattle.disk_definitions.proofs.TakenLaws.{small_is_changed, inode_is_marked, large_is_marked, segments_are_changed, states_are_changed}
use Rattle.disk_definitions.proofs.picks.what_is_taken_changes_and_nothing_else.Goals as goal

pub returns-clause-small : goal.returns-clause-small
returns-clause-small c = small_is_changed

pub returns-clause-inode : goal.returns-clause-inode
returns-clause-inode c = inode_is_marked

pub returns-clause-large : goal.returns-clause-large
returns-clause-large c = large_is_marked

pub returns-clause-segments : goal.returns-clause-segments
returns-clause-segments c = segments_are_changed

pub returns-clause-states : goal.returns-clause-states
returns-clause-states c = states_are_changed
