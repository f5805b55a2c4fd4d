-- The first sector under the lock goes, until there is none.
use Rattle.std.proofs.Common.{false, is_some, length, sym, ap, ◌∙◌, arith}
use Rattle.std.specs.Option.{option_map, unwrap_or}
use Rattle.cache_definitions.specs.Caches.{any_cached, dropped, is_dirty, is_dirty_under}
use Rattle.cache_definitions.specs.Flags.{among_cached}
use Rattle.clerk_cache.proofs.Dropped.{first_is_under, dropped-without, none_under, fewer_left}
use Rattle.clerk_cache.proofs.DropLaws.{clean_all, gone}
use Rattle.clerk_cache.proofs.Staying.{but_gone, none_left}
use Rattle.clerk_cache.proofs.cache.Cache.drop_all.Goals as goal

pub loop-sector-preserved : goal.loop-sector-preserved
loop-sector-preserved c =
    let contents = c.loop-sector.self.entries in
    let sector = c.in-Some.sector in
    let one = first_is_under c.args.lock contents sector c.in-Some.ensures.ordered (sym c.in-Some.ensures.sector) in
    let clean = clean_all c.args.lock contents c.loop-sector.invariant.clean sector one.cached one.there one.under in
    let left = ap (λ cache. dropped cache c.args.lock) c.forget_near.ensures.entries ∙ dropped-without c.args.lock contents sector one.cached one.there one.under in
    record {
      left = left ∙ c.loop-sector.invariant.left;
      clean = ap (any_cached (is_dirty_under c.args.lock)) c.forget_near.ensures.entries ∙ none_left (is_dirty_under c.args.lock) contents sector c.loop-sector.invariant.clean;
      staying = c.forget_near.ensures.clean (ap (λ o. unwrap_or (option_map is_dirty o) false) one.there ∙ ap is_some clean) ∙ c.loop-sector.invariant.staying;
      flying = (λ i. among_cached (left i) (c.forget_near.ensures.flying i))
          ∙ but_gone sector (dropped contents c.args.lock) c.loop-sector.self.flying (gone c.args.lock sector contents c.in-Some.ensures.ordered one.cached one.there one.under)
          ∙ c.loop-sector.invariant.flying;
      spare = omega (arith, c.forget_near.ensures.spare, c.loop-sector.invariant.spare);
    }

pub loop-sector-smaller : goal.loop-sector-smaller
loop-sector-smaller c =
    let contents = c.loop-sector.self.entries in
    let one = first_is_under c.args.lock contents c.in-Some.sector c.in-Some.ensures.ordered (sym c.in-Some.ensures.sector) in
    omega (arith, ap length c.forget_near.ensures.entries, fewer_left contents c.in-Some.sector one.cached one.there)

pub returns-clause-entries : goal.returns-clause-entries
returns-clause-entries c = none_under c.args.lock c.loop-sector.self.entries (sym c.in_default.ensures.sector) ∙ c.loop-sector.invariant.left

pub returns-clause-flying : goal.returns-clause-flying
returns-clause-flying c =
    let gone = none_under c.args.lock c.loop-sector.self.entries (sym c.in_default.ensures.sector) in
    c.in_default.ensures.flying ∙ ap (λ cache. among_cached cache c.loop-sector.self.flying) gone ∙ c.loop-sector.invariant.flying
    ∙ ap (λ cache. among_cached cache c.args.self.now.flying) (sym (gone ∙ c.loop-sector.invariant.left))
