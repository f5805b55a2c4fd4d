-- So many are cached from the first on, and what moved first of them moved first of all.
use Rattle.std.proofs.Common.{◌≡◌, take, sym, ap, ◌∙◌, subst}
use Rattle.std.specs.List.{All, take_while}
use Rattle.set_definitions.specs.Seen.{first_moved}
use Rattle.lock_sets.specs.declared.seen.Seen.{Seen}
use Rattle.lock_sets.specs.Seen.{seen_as}
use Rattle.two_phase.specs.Rechecks.{IsCached, is_cached}
use Rattle.two_phase.proofs.Standing.{front_cached, front_fits, front_is, front_moved}
use Rattle.two_phase.proofs.comparing.cached_front.Goals as goal

pub slice_bounds-result-end : goal.slice_bounds-result-end
slice_bounds-result-end g c =
    front_fits (λ (one : Seen). (one.sector.0, one.version)) (is_cached (g.C.CachedBlocks.cached c.args.sectors.now)) c.args.saw.now c.cached_count-count.result c.cached_count-count.ensures

pub returns-clause-is : goal.returns-clause-is
returns-clause-is g c =
    front_is (λ (one : Seen). (one.sector.0, one.version)) (is_cached (g.C.CachedBlocks.cached c.args.sectors.now)) c.args.saw.now c.cached_count-count.result c.cached_count-count.ensures

pub returns-clause-cached : goal.returns-clause-cached
returns-clause-cached g c =
    let cached = g.C.CachedBlocks.cached c.args.sectors.now in
    let is : seen_as (take c.cached_count-count.result c.args.saw.now) ≡ take_while (is_cached cached) (seen_as c.args.saw.now) = returns-clause-is g c in
    subst (All (IsCached cached)) (sym is) (front_cached (seen_as c.args.saw.now) cached)

pub returns-clause-moved : goal.returns-clause-moved
returns-clause-moved g c =
    let cached = g.C.CachedBlocks.cached c.args.sectors.now in
    let is : seen_as (take c.cached_count-count.result c.args.saw.now) ≡ take_while (is_cached cached) (seen_as c.args.saw.now) = returns-clause-is g c in
    ap (λ front. first_moved front cached) is ∙ front_moved (seen_as c.args.saw.now) cached
