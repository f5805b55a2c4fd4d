-- By whether there is one at the place, and its write may be issued.
use Rattle.std.proofs.Common.{◌≡◌, None, sym, ap, ◌∙◌}
use Rattle.std.specs.List.{slice_get}
use Rattle.std.specs.Option.{option_map}
use Rattle.cache_definitions.specs.Caches.{blocks_of}
use Rattle.core_definitions.specs.Cores.{writes}
use Rattle.core_definitions.specs.WriteGuards.{is_issuable}
use Rattle.server_writes.proofs.Cached.{beyond, passed_over}
use Rattle.server_issues.specs.Issuing.{Issuing}
use Rattle.server_issues.proofs.issuer.Issuer.cached_at.Goals as goal

pub returns-in_default : goal.returns-in_default
returns-in_default c = λ core is.
    let i = c.args.self.now in
    let shown = c.sectors.ensures ∙ ap (λ cache. blocks_of cache.entries) c.cache.ensures ∙ ap (λ (j : Issuing). blocks_of j.server.server.cache) c.self.view_is in
    let none : slice_get (blocks_of i.server.server.cache) c.args.i ≡ None = sym (c.at.ensures ∙ ap (λ es. slice_get es c.args.i) shown) ∙ ap (option_map (λ entry. (entry.0.0, entry.1.now))) c.in_default.is in
    beyond (λ s. is_issuable core i.server.id s (writes core i.server.id)) (λ cached. cached.block) i.server.server.cache c.args.i none

pub returns-else-is_issuable : goal.returns-else-is_issuable
returns-else-is_issuable c = λ core is.
    let i = c.args.self.now in
    let shown = c.sectors.ensures ∙ ap (λ cache. blocks_of cache.entries) c.cache.ensures ∙ ap (λ (j : Issuing). blocks_of j.server.server.cache) c.self.view_is in
    let at = sym (c.at.ensures ∙ ap (λ es. slice_get es c.args.i) shown) ∙ ap (option_map (λ entry. (entry.0.0, entry.1.now))) c.in-Some.is in
    passed_over (λ s. is_issuable core i.server.id s (writes core i.server.id)) (λ cached. cached.block) i.server.server.cache c.args.i c.in-Some.sector.0 _ at
    (sym (c.is_issuable.ensures core is) ∙ c.if-is_issuable.false)
