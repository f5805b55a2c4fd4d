-- The flag alone is another.
use Rattle.std.proofs.Common.{if◌then◌else◌, refl, sym, ap, ◌∙◌, subst, arith}
use Rattle.sector_bytes.proofs.MapLaws.{adjusted_by_nothing}
use Rattle.cache_definitions.specs.Flags.{but, with_cached}
use Rattle.clerk_cache.specs.Kept.{AreAlike, flagged, flown_state, is_state_flying, is_state_staying, joined}
use Rattle.clerk_cache.proofs.Flagging.{flagged-same}
use Rattle.clerk_cache.proofs.Flown.{flown_either}
use Rattle.clerk_cache.proofs.Joining.{alike-states, joined-states}
use Rattle.clerk_cache.proofs.cache.Cache.set_flies.Goals as goal

pub invariant_of-self : goal.invariant_of-self
invariant_of-self c = record {
  alike = subst (AreAlike c.self.inside.sectors.entries) (sym c.edit.ensures.entries) (alike-states (flown_state c.args.flies) c.self.inside.sectors.entries c.self.inside.states.entries c.args.sector.0 c.self.invariant.alike);
  ordered = c.self.invariant.ordered;
}

pub returns-clause-entries : goal.returns-clause-entries
returns-clause-entries c =
    ap (joined c.self.inside.sectors.entries) c.edit.ensures.entries
    ∙ joined-states (flown_state c.args.flies) (λ cached. cached) (λ block state. refl) c.self.inside.sectors.entries c.self.inside.states.entries c.args.sector.0 c.self.invariant.alike
    ∙ adjusted_by_nothing (joined c.self.inside.sectors.entries c.self.inside.states.entries) c.args.sector.0 ∙ ap (λ cache. cache.entries) c.self.view_is

pub returns-clause-staying : goal.returns-clause-staying
returns-clause-staying c =
    ap (flagged is_state_staying) c.edit.ensures.entries ∙ flagged-same is_state_staying c.args.sector.0 (flown_state c.args.flies) (λ state. refl) c.self.inside.states.entries ∙ ap (λ cache. cache.staying) c.self.view_is

pub returns-clause-flying : goal.returns-clause-flying
returns-clause-flying c =
    ap (flagged is_state_flying) c.edit.ensures.entries
    ∙ flown_either c.args.sector.0 c.args.flies c.self.inside.sectors.entries c.self.inside.states.entries c.self.invariant
    ∙ ap (λ cache. if c.args.flies then with_cached cache.entries c.args.sector.0 cache.flying else but c.args.sector.0 cache.flying) c.self.view_is

pub returns-clause-spare : goal.returns-clause-spare
returns-clause-spare c = omega (arith, c.edit.ensures.spare, ap (λ cache. cache.spare) c.self.view_is)
