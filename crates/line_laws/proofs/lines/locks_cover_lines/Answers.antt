-- By the plan that follows, behind the locks of the trail.
use Rattle.line_laws.proofs.Covered.{line_edits_covered, line_nodes_held, line_changes_alone}
use Rattle.line_laws.proofs.lines.locks_cover_lines.Goals as goal

pub returns-clause-edits : goal.returns-clause-edits
returns-clause-edits c = line_edits_covered

pub returns-clause-nodes : goal.returns-clause-nodes
returns-clause-nodes c = line_nodes_held

pub returns-clause-alone : goal.returns-clause-alone
returns-clause-alone c = line_changes_alone
