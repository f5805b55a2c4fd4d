-- The flags alone are others, and who stayed wanted is dirty.
use Rattle.std.proofs.Common.{◌≡◌, true, sym, ap, ◌∙◌, subst, arith}
use Rattle.frang_base.specs.Functions.{member}
use Rattle.sector_bytes.specs.SectorMaps.{Ascend}
use Rattle.cache_definitions.specs.Caches.{dirty_sectors, is_dirty_at}
use Rattle.clerk_cache.specs.Kept.{AreAlike, flagged, is_state_flying, is_state_staying, joined}
use Rattle.clerk_cache.proofs.Joining.{ascend_joined}
use Rattle.clerk_cache.proofs.Staying.{who_stays_is_dirty}
use Rattle.clerk_cache.proofs.WantedAll.{alike-all, flying-all, joined-all, staying-all}
use Rattle.clerk_cache.proofs.cache.Cache.want_all.Goals as goal

pub invariant_of-self : goal.invariant_of-self
invariant_of-self c = record {
  alike = subst (AreAlike c.self.inside.sectors.entries) (sym c.want_all.ensures.entries) (alike-all c.self.inside.sectors.entries c.self.inside.states.entries c.self.invariant.alike);
  ordered = c.self.invariant.ordered;
}

pub returns-clause-entries : goal.returns-clause-entries
returns-clause-entries c =
    ap (joined c.self.inside.sectors.entries) c.want_all.ensures.entries ∙ joined-all c.self.inside.sectors.entries c.self.inside.states.entries c.self.invariant.alike ∙ ap (λ cache. cache.entries) c.self.view_is

pub returns-clause-staying : goal.returns-clause-staying
returns-clause-staying c =
    ap (flagged is_state_staying) c.want_all.ensures.entries ∙ staying-all c.self.inside.sectors.entries c.self.inside.states.entries c.self.invariant.alike ∙ ap (λ cache. dirty_sectors cache.entries) c.self.view_is

pub returns-clause-flying : goal.returns-clause-flying
returns-clause-flying c = ap (flagged is_state_flying) c.want_all.ensures.entries ∙ flying-all c.self.inside.states.entries ∙ ap (λ cache. cache.flying) c.self.view_is

pub returns-clause-spare : goal.returns-clause-spare
returns-clause-spare c = omega (arith, c.want_all.ensures.spare, ap (λ cache. cache.spare) c.self.view_is)

pub returns-clause-joined : goal.returns-clause-joined
returns-clause-joined c = λ s stays.
    subst (λ cache. is_dirty_at cache.entries s ≡ true) c.self.view_is
    (who_stays_is_dirty c.self.inside.sectors.entries c.self.inside.states.entries s c.self.invariant (ap (λ cache. member s cache.staying) c.self.view_is ∙ stays))

pub returns-clause-ordered : goal.returns-clause-ordered
returns-clause-ordered c = subst (λ cache. Ascend cache.entries) c.self.view_is (ascend_joined c.self.inside.sectors.entries c.self.inside.states.entries c.self.invariant)
