-- The test tells.
use Rattle.std.proofs.Common.{Some, None, if◌then◌else◌, sym, ap, ◌∙◌}
use Rattle.clerk_cache.proofs.covered.sector_under.Goals as goal

pub returns-then-is_under : goal.returns-then-is_under
returns-then-is_under c = sym (ap (λ t. if t then Some c.args.covered.sector else None) (sym c.is_under.ensures ∙ c.if-is_under.true))

pub returns-else-is_under : goal.returns-else-is_under
returns-else-is_under c = sym (ap (λ t. if t then Some c.args.covered.sector else None) (sym c.is_under.ensures ∙ c.if-is_under.false))
