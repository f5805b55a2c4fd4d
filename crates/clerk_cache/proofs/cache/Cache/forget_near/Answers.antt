-- Both maps lose the sector, and with it its flags.
use Rattle.std.proofs.Common.{ap, ◌∙◌}
use Rattle.sector_bytes.specs.SectorMaps.{without}
use Rattle.cache_definitions.specs.Caches.{is_dirty_at}
use Rattle.cache_definitions.specs.Flags.{but}
use Rattle.clerk_cache.specs.Kept.{flagged, is_state_flying, is_state_staying, joined}
use Rattle.clerk_cache.proofs.Flagging.{flagged-without}
use Rattle.clerk_cache.proofs.Staying.{clean_stays_not}
use Rattle.clerk_cache.proofs.Joining.{kept_without, joined-without, states_ascend}
use Rattle.clerk_cache.proofs.cache.Cache.forget_near.Goals as goal

pub invariant_of-self : goal.invariant_of-self
invariant_of-self c =
    kept_without c.self.inside.sectors.entries c.remove_near.new.self.entries c.self.inside.states.entries c.remove.new.self.entries c.args.sector.0
    c.self.invariant c.remove_near.ensures.entries c.remove.ensures.entries

pub returns-clause-entries : goal.returns-clause-entries
returns-clause-entries c =
    (λ i. joined (c.remove_near.ensures.entries i) (c.remove.ensures.entries i))
    ∙ joined-without _ _ c.args.sector.0 c.self.invariant.alike
    ∙ ap (λ cache. without cache.entries c.args.sector.0) c.self.view_is

pub returns-clause-staying : goal.returns-clause-staying
returns-clause-staying c =
    ap (flagged is_state_staying) c.remove.ensures.entries ∙ flagged-without is_state_staying c.args.sector.0 c.self.inside.states.entries (states_ascend c.self.invariant)
    ∙ ap (λ cache. but c.args.sector.0 cache.staying) c.self.view_is

pub returns-clause-flying : goal.returns-clause-flying
returns-clause-flying c =
    ap (flagged is_state_flying) c.remove.ensures.entries ∙ flagged-without is_state_flying c.args.sector.0 c.self.inside.states.entries (states_ascend c.self.invariant)
    ∙ ap (λ cache. but c.args.sector.0 cache.flying) c.self.view_is

pub returns-clause-clean : goal.returns-clause-clean
returns-clause-clean c = λ clean.
    ap (flagged is_state_staying) c.remove.ensures.entries ∙ flagged-without is_state_staying c.args.sector.0 c.self.inside.states.entries (states_ascend c.self.invariant)
    ∙ clean_stays_not c.self.inside.sectors.entries c.self.inside.states.entries c.args.sector.0 c.self.invariant (ap (λ cache. is_dirty_at cache.entries c.args.sector.0) c.self.view_is ∙ clean)
    ∙ ap (λ cache. cache.staying) c.self.view_is
