-- There is no first dirty sector.
use Rattle.std.proofs.Common.{◌≡◌, Bool, true, false, not, is_some, refl, ap, sym, ◌∙◌}
use Rattle.cache_definitions.specs.Caches.{is_dirty_under}
use Rattle.cache_definitions.proofs.CacheLaws.{any_first}
use Rattle.clerk_cache.proofs.cache.Cache.is_clean.Goals as goal

twice : (b : Bool) → b ≡ not (not b)
twice true = refl
twice false = refl

pub returns : goal.returns
returns c =
    twice c.is_none.result ∙ ap not (sym c.is_none.ensures) ∙ ap (λ o. not (is_some o)) c.first_dirty.ensures
    ∙ ap not (sym (any_first (is_dirty_under c.args.lock) c.args.self.now.entries))
