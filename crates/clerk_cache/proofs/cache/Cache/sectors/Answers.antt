-- The blocks of the joined entries are those of the sectors.
use Rattle.std.proofs.Common.{sym, ap, ◌∙◌}
use Rattle.cache_definitions.specs.Caches.{blocks_of}
use Rattle.clerk_cache.proofs.Joining.{blocks_of-joined}
use Rattle.clerk_cache.proofs.cache.Cache.sectors.Goals as goal

pub returns : goal.returns
returns c = sym (blocks_of-joined _ _ c.self.invariant.alike) ∙ ap (λ cache. blocks_of cache.entries) c.self.view_is
