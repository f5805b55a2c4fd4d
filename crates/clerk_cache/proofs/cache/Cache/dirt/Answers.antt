-- The dirt of what is kept beside the block.
use Rattle.std.proofs.Common.{refl, sym, ap, ◌∙◌}
use Rattle.std.specs.Option.{option_and_then}
use Rattle.sector_bytes.specs.SectorMaps.{value_at}
use Rattle.clerk_cache.specs.Kept.{joined}
use Rattle.clerk_cache.proofs.Edits.{dirt_found}
use Rattle.clerk_cache.proofs.Joining.{state_at-joined}
use Rattle.clerk_cache.proofs.cache.Cache.dirt.Goals as goal

pub returns-in-Some : goal.returns-in-Some
returns-in-Some c =
    ap (option_and_then (λ state. state.dirt)) c.in-Some.ensures.value ∙ dirt_found (λ state. state.dirt) (value_at c.self.inside.states.entries c.args.sector.0)
    ∙ ap (option_and_then (λ dirt. dirt)) (state_at-joined (λ state. state.dirt) (λ cached. cached.dirt) (λ block state. refl) _ _ c.args.sector.0 c.self.invariant.alike)
    ∙ sym (dirt_found (λ cached. cached.dirt) (value_at (joined c.self.inside.sectors.entries c.self.inside.states.entries) c.args.sector.0))
    ∙ ap (λ cache. option_and_then (λ cached. cached.dirt) (value_at cache.entries c.args.sector.0)) c.self.view_is

pub returns-in-None : goal.returns-in-None
returns-in-None c =
    ap (option_and_then (λ state. state.dirt)) c.in-None.ensures.value ∙ dirt_found (λ state. state.dirt) (value_at c.self.inside.states.entries c.args.sector.0)
    ∙ ap (option_and_then (λ dirt. dirt)) (state_at-joined (λ state. state.dirt) (λ cached. cached.dirt) (λ block state. refl) _ _ c.args.sector.0 c.self.invariant.alike)
    ∙ sym (dirt_found (λ cached. cached.dirt) (value_at (joined c.self.inside.sectors.entries c.self.inside.states.entries) c.args.sector.0))
    ∙ ap (λ cache. option_and_then (λ cached. cached.dirt) (value_at cache.entries c.args.sector.0)) c.self.view_is
