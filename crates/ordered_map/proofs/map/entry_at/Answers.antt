-- A chunk is passed, or has the entry.
use Rattle.std.proofs.Common.{◌∙◌, ap, ◌+◌, ◌-◌, ◌<◌, ◌≤◌, length, drop, arith}
use Rattle.std.specs.List.{slice_get}
use Rattle.ordered_map.specs.Chunks.{joined}
use Rattle.ordered_map.proofs.Found.{entry_past, entry_here}
use Rattle.ordered_map.proofs.map.entry_at.Goals as goal

pub returns-then-rest-len : goal.returns-then-rest-len
returns-then-rest-len g c =
    let below : c.loop-chunk.rest < length c.chunk-item.result = omega (arith, c.len.ensures, c.if-rest-len.true) in
    entry_here c.args.chunks.now c.loop-chunk.chunk-index c.loop-chunk.rest c.chunk-item.result c.loop-chunk-test.true c.chunk-item.is c.entry.result.now below c.entry.ensures
    ∙ c.loop-chunk.invariant

pub loop-chunk-preserved : goal.loop-chunk-preserved
loop-chunk-preserved g c =
    let past : length c.chunk-item.result ≤ c.loop-chunk.rest = omega (arith, c.len.ensures, c.if-rest-len.false) in
    ap (λ n. slice_get (joined (drop (c.loop-chunk.chunk-index + 1) c.args.chunks.now)) (c.loop-chunk.rest - n)) c.len-rest.ensures
    ∙ entry_past c.args.chunks.now c.loop-chunk.chunk-index c.loop-chunk.rest c.chunk-item.result c.loop-chunk-test.true c.chunk-item.is past
    ∙ c.loop-chunk.invariant
