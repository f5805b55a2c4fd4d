-- The change is laid under the lock that covers its sector.
use Rattle.std.proofs.Common.{◌∙◌}
use Rattle.server_core.proofs.Laying.{under_its_own}
use Rattle.server_core.proofs.committing.lay_change.Goals as goal

pub returns-clause-entries : goal.returns-clause-entries
returns-clause-entries c = c.change.ensures.entries ∙ under_its_own c.args.cache.now.entries c.args.change.now c.args.mark c.in-Some.cover c.in-Some.ensures.cover
