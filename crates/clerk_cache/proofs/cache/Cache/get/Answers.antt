-- The block of the joined entries is that of the sectors.
use Rattle.std.proofs.Common.{ap, ◌∙◌}
use Rattle.cache_definitions.specs.Caches.{block_at}
use Rattle.clerk_cache.proofs.Joining.{block_at-joined}
use Rattle.clerk_cache.proofs.cache.Cache.get.Goals as goal

pub returns : goal.returns
returns c = c.get.ensures ∙ block_at-joined _ _ c.args.sector.0 c.self.invariant.alike ∙ ap (λ cache. block_at cache.entries c.args.sector.0) c.self.view_is
