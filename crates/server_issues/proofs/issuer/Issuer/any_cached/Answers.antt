-- All were gone through.
use Rattle.std.proofs.Common.{◌≡◌, ◌≤◌, ℕ, Bool, length, sym, ap, ◌∙◌, arith}
use Rattle.std.proofs.lemmas.List.{length-map}
use Rattle.cache_definitions.specs.Caches.{blocks_of}
use Rattle.core_definitions.specs.Cores.{writes}
use Rattle.core_definitions.specs.WriteGuards.{is_issuable}
use Rattle.server_writes.proofs.Cached.{all_passed, none_there}
use Rattle.server_issues.specs.Issuing.{Issuing}
use Rattle.server_issues.proofs.issuer.Issuer.any_cached.Goals as goal

pub returns : goal.returns
returns c = λ core is sector cached.
    let i = c.args.self.now in
    let p : ℕ → Bool = λ s. is_issuable core i.server.id s (writes core i.server.id) in
    let shown = c.sectors.ensures ∙ ap (λ cache. blocks_of cache.entries) c.cache.ensures ∙ ap (λ (j : Issuing). blocks_of j.server.server.cache) c.self.view_is in
    let count : c.count-i-end.result ≡ length i.server.server.cache = c.count-i-end.ensures.count ∙ ap length shown ∙ length-map i.server.server.cache (λ e. (e.0, e.1.block)) in
    let far : length i.server.server.cache ≤ c.loop-i.i = omega (arith, count) in
    none_there p i.server.server.cache sector (sym (c.loop-i.invariant core is) ∙ all_passed p (λ cached. cached.block) i.server.server.cache c.loop-i.i far) cached
