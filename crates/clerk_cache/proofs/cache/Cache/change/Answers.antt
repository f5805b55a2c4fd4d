-- The block is changed first, and then the rest.
use Rattle.std.proofs.Common.{false, refl, ap, sym, ◌∙◌, subst}
use Rattle.sector_bytes.specs.Changes.{changed}
use Rattle.cache_definitions.specs.Caches.{block_at, dirty, with_change}
use Rattle.meta_version.specs.Updates.{IsOlder}
use Rattle.clerk_cache.specs.Kept.{AreAlike, changed_state, flagged, is_state_flying, is_state_staying, joined}
use Rattle.clerk_cache.proofs.Flagging.{flagged-same}
use Rattle.clerk_cache.proofs.Joining.{alike-states, block_at-joined, joined-states, kept_changed}
use Rattle.clerk_cache.proofs.Edits.{then_marked}
use Rattle.clerk_cache.proofs.cache.Cache.change.Goals as goal

pub change-requires-clause-older : goal.change-requires-clause-older
change-requires-clause-older c =
    let same = block_at-joined _ _ c.args.change.now.sector.0 c.self.invariant.alike ∙ ap (λ cache. block_at cache.entries c.args.change.now.sector.0) c.self.view_is in
    subst (λ block. IsOlder block c.args.change.now) (sym same) c.requires.older

pub invariant_of-self : goal.invariant_of-self
invariant_of-self c =
    let kept = kept_changed (λ block. changed block c.args.change.now) c.self.inside.sectors.entries c.change.new.self.entries c.self.inside.states.entries c.args.change.now.sector.0 c.self.invariant c.change.ensures.entries in
    record {
      alike = subst (AreAlike c.change.new.self.entries) (sym c.edit.ensures.entries)
          (alike-states (changed_state c.args.cover (record { mark = c.args.mark; is_bytes = false })) c.change.new.self.entries c.self.inside.states.entries c.args.change.now.sector.0 kept.alike);
      ordered = kept.ordered;
    }

pub returns-clause-entries : goal.returns-clause-entries
returns-clause-entries c =
    let kept = kept_changed (λ block. changed block c.args.change.now) c.self.inside.sectors.entries c.change.new.self.entries c.self.inside.states.entries c.args.change.now.sector.0 c.self.invariant c.change.ensures.entries in
    ap (joined c.change.new.self.entries) c.edit.ensures.entries
    ∙ joined-states (changed_state c.args.cover (record { mark = c.args.mark; is_bytes = false })) (λ cached. dirty cached.block c.args.cover c.args.mark false) (λ block state. refl) c.change.new.self.entries c.self.inside.states.entries c.args.change.now.sector.0 kept.alike
    ∙ then_marked c.args.change.now c.self.inside.sectors.entries c.change.new.self.entries c.self.inside.states.entries c.self.invariant.alike c.change.ensures.entries c.args.mark c.args.cover
    ∙ ap (λ cache. with_change cache.entries c.args.change.now c.args.mark c.args.cover) c.self.view_is

pub returns-clause-staying : goal.returns-clause-staying
returns-clause-staying c =
    ap (flagged is_state_staying) c.edit.ensures.entries
    ∙ flagged-same is_state_staying c.args.change.now.sector.0 (changed_state c.args.cover (record { mark = c.args.mark; is_bytes = false })) (λ state. refl) c.self.inside.states.entries
    ∙ ap (λ cache. cache.staying) c.self.view_is

pub returns-clause-flying : goal.returns-clause-flying
returns-clause-flying c =
    ap (flagged is_state_flying) c.edit.ensures.entries
    ∙ flagged-same is_state_flying c.args.change.now.sector.0 (changed_state c.args.cover (record { mark = c.args.mark; is_bytes = false })) (λ state. refl) c.self.inside.states.entries
    ∙ ap (λ cache. cache.flying) c.self.view_is
