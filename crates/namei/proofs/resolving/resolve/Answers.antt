-- By the walk of the definitions.
use Rattle.namei.proofs.Agreeing.{answers_over}
use Rattle.namei.proofs.resolving.resolve.Goals as goal

pub returns-clause-leads : goal.returns-clause-leads
returns-clause-leads c = answers_over c.args.last c.args.path.now c.args.sectors.now.entries c.from_root.result c.from_root.ensures
