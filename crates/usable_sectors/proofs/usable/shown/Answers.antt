-- The cover decides.
use Rattle.std.proofs.Common.{◌∙◌}
use Rattle.usable_sectors.proofs.Showing.{not_shown, shown_under}
use Rattle.usable_sectors.proofs.usable.shown.Goals as goal

pub returns-in-Some : goal.returns-in-Some
returns-in-Some c = c.block_under.ensures ∙ shown_under c.args.set.now c.args.sector.0 c.args.cache.now.entries c.in-Some.ensures.ordered c.in-Some.lock c.in-Some.ensures.cover

pub returns-in-None : goal.returns-in-None
returns-in-None c = not_shown c.args.set.now c.args.sector.0 c.args.cache.now.entries c.in-None.ensures.ordered c.in-None.ensures.cover
