-- By what the walks come to, and the plans over paths without links.
use Rattle.line_laws.proofs.Planned.{lines_planned}
use Rattle.line_laws.proofs.Allowed.{stay_allowed}
use Rattle.line_laws.proofs.lines.lines_are_planned_as_the_tree_performs.Goals as goal

pub returns-clause-planned : goal.returns-clause-planned
returns-clause-planned c = lines_planned

pub returns-clause-allowed : goal.returns-clause-allowed
returns-clause-allowed c = stay_allowed
