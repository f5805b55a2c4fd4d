-- By the recursion along the rest of the list.
use Rattle.tree_laws.proofs.SyncingLaws.{synced_was_made_sure, what_makes_sure_syncs, carried_is_a_stall, a_stall_is_carried}
use Rattle.tree_laws.proofs.histories.a_sync_or_an_unmount_makes_sure.Goals as goal

pub returns-clause-has : goal.returns-clause-has
returns-clause-has c = synced_was_made_sure

pub returns-clause-syncs : goal.returns-clause-syncs
returns-clause-syncs c = what_makes_sure_syncs

pub returns-clause-carried : goal.returns-clause-carried
returns-clause-carried c = carried_is_a_stall

pub returns-clause-carries : goal.returns-clause-carries
returns-clause-carries c = a_stall_is_carried
