-- The first dirty state is the first dirty sector.
use Rattle.std.proofs.Common.{refl, ap, ◌∙◌}
use Rattle.cache_definitions.specs.Caches.{first_cached, is_dirty_under}
use Rattle.clerk_cache.specs.Kept.{is_state_dirty_under}
use Rattle.clerk_cache.proofs.Dropped.{first-joined}
use Rattle.clerk_cache.proofs.cache.Cache.first_dirty.Goals as goal

pub returns : goal.returns
returns c = c.first_dirty.ensures ∙ first-joined (is_dirty_under c.args.lock) (is_state_dirty_under c.args.lock) (λ block state. refl) _ _ c.self.invariant.alike
    ∙ ap (λ cache. first_cached (is_dirty_under c.args.lock) cache.entries) c.self.view_is
