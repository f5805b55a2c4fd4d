-- A sector that is cached counts, and one that isn't ends it.
use Rattle.std.proofs.Common.{◌≡◌, ◌+◌, sym, ap, ◌∙◌, arith}
use Rattle.std.specs.List.{prefix_len}
use Rattle.std.proofs.lemmas.List.Sums.{prefix_len-drop_all}
use Rattle.lock_sets.specs.declared.seen.Seen.{Seen}
use Rattle.lock_sets.proofs.Along.{held_behind, held_here}
use Rattle.two_phase.specs.Rechecks.{is_cached}
use Rattle.two_phase.proofs.Standing.{count_along}
use Rattle.two_phase.proofs.comparing.cached_count.Goals as goal

pub returns-then-missing : goal.returns-then-missing
returns-then-missing g c =
    let test = λ (one : Seen). is_cached (g.C.CachedBlocks.cached c.args.sectors.now) (one.sector.0, one.version) in
    held_here test c.args.saw.now c.loop-one.one-index _ c.loop-one-test.true c.is_missing-missing.result c.is_missing-missing.ensures c.loop-one.count c.loop-one.invariant.all c.if-missing.true
    ∙ count_along (λ (one : Seen). (one.sector.0, one.version)) (is_cached (g.C.CachedBlocks.cached c.args.sectors.now)) c.args.saw.now

pub loop-one-preserved : goal.loop-one-preserved
loop-one-preserved g c =
    let test = λ (one : Seen). is_cached (g.C.CachedBlocks.cached c.args.sectors.now) (one.sector.0, one.version) in record {
      count = ap (λ n. n + 1) c.loop-one.invariant.count;
      all = held_behind test c.args.saw.now c.loop-one.one-index _ c.loop-one-test.true c.is_missing-missing.result c.is_missing-missing.ensures c.loop-one.count c.loop-one.invariant.all c.if-missing.false;
    }

pub returns : goal.returns
returns g c =
    let test = λ (one : Seen). is_cached (g.C.CachedBlocks.cached c.args.sectors.now) (one.sector.0, one.version) in
    let none = prefix_len-drop_all test c.args.saw.now c.loop-one.one-index (omega (arith, c.loop-one-test.false)) in
    let all : prefix_len test c.args.saw.now ≡ c.loop-one.count = omega (arith, c.loop-one.invariant.all, none) in
    sym all ∙ count_along (λ (one : Seen). (one.sector.0, one.version)) (is_cached (g.C.CachedBlocks.cached c.args.sectors.now)) c.args.saw.now
