-- The cover of what is kept beside the block.
use Rattle.std.proofs.Common.{refl, ap, ◌∙◌, subst}
use Rattle.std.specs.Option.{option_map}
use Rattle.sector_bytes.specs.SectorMaps.{Ascend}
use Rattle.cache_definitions.specs.Caches.{cover_at}
use Rattle.clerk_cache.proofs.Joining.{ascend_joined, state_at-joined}
use Rattle.clerk_cache.proofs.cache.Cache.cover.Goals as goal

pub returns-in-Some-clause-cover : goal.returns-in-Some-clause-cover
returns-in-Some-clause-cover c =
    ap (option_map (λ state. state.cover)) c.in-Some.ensures.value
    ∙ state_at-joined (λ state. state.cover) (λ cached. cached.cover) (λ block state. refl) _ _ c.args.sector.0 c.self.invariant.alike
    ∙ ap (λ cache. cover_at cache.entries c.args.sector.0) c.self.view_is

pub returns-in-None-clause-cover : goal.returns-in-None-clause-cover
returns-in-None-clause-cover c =
    ap (option_map (λ state. state.cover)) c.in-None.ensures.value
    ∙ state_at-joined (λ state. state.cover) (λ cached. cached.cover) (λ block state. refl) _ _ c.args.sector.0 c.self.invariant.alike
    ∙ ap (λ cache. cover_at cache.entries c.args.sector.0) c.self.view_is

pub returns-in-Some-clause-ordered : goal.returns-in-Some-clause-ordered
returns-in-Some-clause-ordered c = subst (λ cache. Ascend cache.entries) c.self.view_is (ascend_joined _ _ c.self.invariant)

pub returns-in-None-clause-ordered : goal.returns-in-None-clause-ordered
returns-in-None-clause-ordered c = subst (λ cache. Ascend cache.entries) c.self.view_is (ascend_joined _ _ c.self.invariant)
