-- By the blocks that are left.
use Rattle.plan_laws.proofs.Truncating.{truncate_planned}
use Rattle.plan_laws.proofs.meeting.truncates_are_planned_as_the_tree_has_them.Goals as goal

pub returns : goal.returns
returns c = record { truncate = truncate_planned }
