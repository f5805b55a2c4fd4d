-- Each sector is forgotten in turn.
use Rattle.std.proofs.Common.{◌+◌, drop, sym, ap, ◌∙◌, arith}
use Rattle.std.proofs.lemmas.List.{drop_more}
use Rattle.cache_definitions.specs.Caches.{forgotten}
use Rattle.cache_definitions.specs.Flags.{but_all}
use Rattle.clerk_cache.specs.Dropping.{numbers_of}
use Rattle.clerk_cache.proofs.cache.Cache.forget_all.Goals as goal

pub loop-sector-preserved : goal.loop-sector-preserved
loop-sector-preserved c =
    let i = c.loop-sector.sector-index in
    let sectors = c.args.sectors.now in
    let one = drop_more sectors i (record { 0 = 0 }) c.loop-sector-test.true in
    record {
      left = ap (λ cache. forgotten cache (numbers_of (drop (i + 1) sectors))) c.forget_near.ensures.entries
          ∙ sym (ap (λ rest. forgotten c.loop-sector.self.entries (numbers_of rest)) one) ∙ c.loop-sector.invariant.left;
      staying = ap (but_all (numbers_of (drop (i + 1) sectors))) c.forget_near.ensures.staying
          ∙ sym (ap (λ rest. but_all (numbers_of rest) c.loop-sector.self.staying) one) ∙ c.loop-sector.invariant.staying;
      flying = ap (but_all (numbers_of (drop (i + 1) sectors))) c.forget_near.ensures.flying
          ∙ sym (ap (λ rest. but_all (numbers_of rest) c.loop-sector.self.flying) one) ∙ c.loop-sector.invariant.flying;
      spare = omega (arith, c.forget_near.ensures.spare, c.loop-sector.invariant.spare);
    }
