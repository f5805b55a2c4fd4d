-- The first state under the lock is the first sector under it.
use Rattle.std.proofs.Common.{◌≡◌, refl, ap, ◌∙◌, subst}
use Rattle.sector_bytes.specs.SectorMaps.{Ascend}
use Rattle.cache_definitions.specs.Caches.{first_cached, is_under}
use Rattle.cache_definitions.specs.Flags.{among_cached}
use Rattle.clerk_cache.specs.Kept.{is_state_flying, is_state_under}
use Rattle.clerk_cache.proofs.Joining.{ascend_joined}
use Rattle.clerk_cache.proofs.Dropped.{first-joined}
use Rattle.clerk_cache.proofs.Staying.{flagged_cached}
use Rattle.clerk_cache.proofs.cache.Cache.first_under.Goals as goal

pub returns-clause-sector : goal.returns-clause-sector
returns-clause-sector c = c.first_under.ensures ∙ first-joined (is_under c.args.lock) (is_state_under c.args.lock) (λ block state. refl) _ _ c.self.invariant.alike
    ∙ ap (λ cache. first_cached (is_under c.args.lock) cache.entries) c.self.view_is

pub returns-clause-ordered : goal.returns-clause-ordered
returns-clause-ordered c = subst (λ cache. Ascend cache.entries) c.self.view_is (ascend_joined _ _ c.self.invariant)

pub returns-clause-flying : goal.returns-clause-flying
returns-clause-flying c = subst (λ cache. cache.flying ≡ among_cached cache.entries cache.flying) c.self.view_is (flagged_cached is_state_flying _ _ c.self.invariant)
