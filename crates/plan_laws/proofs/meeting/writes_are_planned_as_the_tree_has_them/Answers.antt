-- By the blocks that are picked and the sectors that are set.
use Rattle.plan_laws.proofs.Writing.{write_planned, fill_planned}
use Rattle.plan_laws.proofs.meeting.writes_are_planned_as_the_tree_has_them.Goals as goal

pub returns-clause-write : goal.returns-clause-write
returns-clause-write c = write_planned

pub returns-clause-fill : goal.returns-clause-fill
returns-clause-fill c = fill_planned
