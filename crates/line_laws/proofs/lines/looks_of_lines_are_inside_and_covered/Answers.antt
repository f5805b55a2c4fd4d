-- By the nodes on the trail, and the plan that follows.
use Rattle.line_laws.proofs.Inside.{lines_inside}
use Rattle.line_laws.proofs.Covered.{line_looks_covered}
use Rattle.line_laws.proofs.lines.looks_of_lines_are_inside_and_covered.Goals as goal

pub returns-clause-inside : goal.returns-clause-inside
returns-clause-inside c = lines_inside

pub returns-clause-covered : goal.returns-clause-covered
returns-clause-covered c = line_looks_covered
