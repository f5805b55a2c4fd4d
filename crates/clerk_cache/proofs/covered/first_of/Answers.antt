-- The first cover from the lock's first on is the lock's, or there is none.
use Rattle.std.proofs.Common.{ap, ◌∙◌}
use Rattle.clerk_cache.specs.Covers.{sector_under}
use Rattle.clerk_cache.proofs.covered.first_of.Goals as goal

pub returns-in-Some : goal.returns-in-Some
returns-in-Some c = c.sector_under.ensures ∙ ap (sector_under c.args.lock) c.in-Some.ensures

pub returns-in-None : goal.returns-in-None
returns-in-None c = ap (sector_under c.args.lock) c.in-None.ensures
