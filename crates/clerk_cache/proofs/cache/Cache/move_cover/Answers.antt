-- The cover alone is another.
use Rattle.std.proofs.Common.{refl, sym, ap, ◌∙◌, subst, arith}
use Rattle.cache_definitions.specs.Caches.{with_cover}
use Rattle.clerk_cache.specs.Kept.{AreAlike, flagged, is_state_flying, is_state_staying, joined, moved_state}
use Rattle.clerk_cache.proofs.Flagging.{flagged-same}
use Rattle.clerk_cache.proofs.Joining.{alike-states, joined-states}
use Rattle.clerk_cache.proofs.cache.Cache.move_cover.Goals as goal

pub invariant_of-self : goal.invariant_of-self
invariant_of-self c = record {
  alike = subst (AreAlike c.self.inside.sectors.entries) (sym c.edit.ensures.entries) (alike-states (moved_state c.args.cover) c.self.inside.sectors.entries c.self.inside.states.entries c.args.sector.0 c.self.invariant.alike);
  ordered = c.self.invariant.ordered;
}

pub returns-clause-entries : goal.returns-clause-entries
returns-clause-entries c =
    ap (joined c.self.inside.sectors.entries) c.edit.ensures.entries
    ∙ joined-states (moved_state c.args.cover) (λ cached. record cached { cover = c.args.cover }) (λ block state. refl) c.self.inside.sectors.entries c.self.inside.states.entries c.args.sector.0 c.self.invariant.alike
    ∙ ap (λ cache. with_cover cache.entries c.args.sector.0 c.args.cover) c.self.view_is

pub returns-clause-staying : goal.returns-clause-staying
returns-clause-staying c =
    ap (flagged is_state_staying) c.edit.ensures.entries ∙ flagged-same is_state_staying c.args.sector.0 (moved_state c.args.cover) (λ state. refl) c.self.inside.states.entries ∙ ap (λ cache. cache.staying) c.self.view_is

pub returns-clause-flying : goal.returns-clause-flying
returns-clause-flying c =
    ap (flagged is_state_flying) c.edit.ensures.entries ∙ flagged-same is_state_flying c.args.sector.0 (moved_state c.args.cover) (λ state. refl) c.self.inside.states.entries ∙ ap (λ cache. cache.flying) c.self.view_is

pub returns-clause-spare : goal.returns-clause-spare
returns-clause-spare c = omega (arith, c.edit.ensures.spare, ap (λ cache. cache.spare) c.self.view_is)
