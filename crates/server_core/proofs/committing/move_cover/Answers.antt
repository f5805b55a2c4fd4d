-- What isn't cached stays so.
use Rattle.server_core.proofs.Laying.{uncovered_stays}
use Rattle.server_core.proofs.committing.move_cover.Goals as goal

pub returns-in-None-clause-entries : goal.returns-in-None-clause-entries
returns-in-None-clause-entries c = uncovered_stays c.args.cache.now.entries c.args.sector.0 c.args.cover c.in-None.ensures.cover
