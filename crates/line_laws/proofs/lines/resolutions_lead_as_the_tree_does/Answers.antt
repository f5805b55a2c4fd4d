-- By the names from the left, and by the links that are left.
use Rattle.line_laws.proofs.Links.{resolutions_lead}
use Rattle.line_laws.proofs.Comes.{comes_to}
use Rattle.line_laws.proofs.lines.resolutions_lead_as_the_tree_does.Goals as goal

pub returns-clause-leads : goal.returns-clause-leads
returns-clause-leads c = resolutions_lead

pub returns-clause-comes : goal.returns-clause-comes
returns-clause-comes c = comes_to
