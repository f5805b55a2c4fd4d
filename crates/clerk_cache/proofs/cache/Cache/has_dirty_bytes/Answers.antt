-- Some sector passes where a first state does.
use Rattle.std.proofs.Common.{is_some, refl, sym, ap, ◌∙◌}
use Rattle.cache_definitions.specs.Caches.{any_cached, is_dirty_bytes}
use Rattle.cache_definitions.proofs.CacheLaws.{any_first}
use Rattle.clerk_cache.specs.Kept.{is_state_bytes, joined}
use Rattle.clerk_cache.proofs.Dropped.{first-joined}
use Rattle.clerk_cache.proofs.cache.Cache.has_dirty_bytes.Goals as goal

pub returns : goal.returns
returns c =
    let blocks = c.self.inside.sectors.entries in
    let states = c.self.inside.states.entries in
    c.has_bytes.ensures ∙ ap is_some (first-joined is_dirty_bytes is_state_bytes (λ block state. refl) blocks states c.self.invariant.alike)
    ∙ sym (any_first is_dirty_bytes (joined blocks states)) ∙ ap (λ cache. any_cached is_dirty_bytes cache.entries) c.self.view_is
