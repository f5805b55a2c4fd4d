-- There is no least mark.
use Rattle.std.proofs.Common.{◌≡◌, Bool, true, false, not, is_some, refl, ap, sym, ◌∙◌}
use Rattle.cache_definitions.specs.Caches.{any_cached, is_dirty}
use Rattle.flush_order.specs.Marks.{least}
use Rattle.clerk_cache.specs.Kept.{joined}
use Rattle.clerk_cache.proofs.Dropped.{any_marked, marks-joined}
use Rattle.clerk_cache.proofs.cache.Cache.is_all_clean.Goals as goal

twice : (b : Bool) → b ≡ not (not b)
twice true = refl
twice false = refl

pub returns : goal.returns
returns c =
    twice c.is_none.result ∙ ap not (sym c.is_none.ensures) ∙ ap (λ o. not (is_some o)) c.first_mark.ensures
    ∙ ap (λ marks. not (is_some (least marks))) (marks-joined _ _ c.self.invariant.alike)
    ∙ ap not (any_marked (joined c.self.inside.sectors.entries c.self.inside.states.entries))
    ∙ ap (λ cache. not (any_cached is_dirty cache.entries)) c.self.view_is
