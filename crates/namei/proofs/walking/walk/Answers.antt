-- By the walk of the definitions.
use Rattle.namei.proofs.Leading.{walk_leads_over}
use Rattle.namei.proofs.walking.walk.Goals as goal

pub returns-clause-leads : goal.returns-clause-leads
returns-clause-leads c = walk_leads_over c.args.path.now c.args.sectors.now.entries c.walked_step.result c.walked_step.ensures
