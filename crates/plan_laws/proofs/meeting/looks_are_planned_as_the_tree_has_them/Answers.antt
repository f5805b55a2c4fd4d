-- Each by the cases of the node that the path names.
use Rattle.plan_laws.proofs.Looking.{stat_planned, readlink_planned, time_planned}
use Rattle.plan_laws.proofs.Listing.{list_planned}
use Rattle.plan_laws.proofs.meeting.looks_are_planned_as_the_tree_has_them.Goals as goal

pub returns-clause-stat : goal.returns-clause-stat
returns-clause-stat c = stat_planned

pub returns-clause-list : goal.returns-clause-list
returns-clause-list c = list_planned

pub returns-clause-readlink : goal.returns-clause-readlink
returns-clause-readlink c = readlink_planned

pub returns-clause-time : goal.returns-clause-time
returns-clause-time c = time_planned
