-- By the sectors that are read.
use Rattle.plan_laws.proofs.Reading.{read_planned}
use Rattle.plan_laws.proofs.meeting.reads_are_planned_as_the_tree_has_them.Goals as goal

pub returns : goal.returns
returns c = record { read = read_planned }
