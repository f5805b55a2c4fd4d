-- The dirt alone is taken from a sector that is there.
use Rattle.std.proofs.Common.{refl, sym, ap, ◌∙◌, subst, arith}
use Rattle.cache_definitions.specs.Caches.{cleaned, without_dirt}
use Rattle.cache_definitions.specs.Flags.{but}
use Rattle.clerk_cache.specs.Kept.{AreAlike, clean_state, flagged, is_state_flying, is_state_staying, joined}
use Rattle.clerk_cache.proofs.Flagging.{flagged-off, flagged-same}
use Rattle.clerk_cache.proofs.Joining.{alike-states, joined-states, states_ascend}
use Rattle.clerk_cache.proofs.cache.Cache.mark_clean.Goals as goal

pub invariant_of-self : goal.invariant_of-self
invariant_of-self c = record {
  alike = subst (AreAlike c.self.inside.sectors.entries) (sym c.edit.ensures.entries) (alike-states clean_state c.self.inside.sectors.entries c.self.inside.states.entries c.args.sector.0 c.self.invariant.alike);
  ordered = c.self.invariant.ordered;
}

pub returns-clause-entries : goal.returns-clause-entries
returns-clause-entries c =
    ap (joined c.self.inside.sectors.entries) c.edit.ensures.entries
    ∙ joined-states clean_state without_dirt (λ block state. refl) c.self.inside.sectors.entries c.self.inside.states.entries c.args.sector.0 c.self.invariant.alike
    ∙ ap (λ cache. cleaned cache.entries c.args.sector.0) c.self.view_is

pub returns-clause-staying : goal.returns-clause-staying
returns-clause-staying c =
    ap (flagged is_state_staying) c.edit.ensures.entries ∙ flagged-off is_state_staying c.args.sector.0 clean_state (λ state. refl) c.self.inside.states.entries (states_ascend c.self.invariant) ∙ ap (λ cache. but c.args.sector.0 cache.staying) c.self.view_is

pub returns-clause-flying : goal.returns-clause-flying
returns-clause-flying c =
    ap (flagged is_state_flying) c.edit.ensures.entries ∙ flagged-same is_state_flying c.args.sector.0 clean_state (λ state. refl) c.self.inside.states.entries ∙ ap (λ cache. cache.flying) c.self.view_is

pub returns-clause-spare : goal.returns-clause-spare
returns-clause-spare c = omega (arith, c.edit.ensures.spare, ap (λ cache. cache.spare) c.self.view_is)
