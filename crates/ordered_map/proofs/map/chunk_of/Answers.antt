-- The first chunk that doesn't end below is the key's, and where all do the last one is.
use Rattle.std.proofs.Common.{◌≤◌, ◌-◌, length, arith}
use Rattle.ordered_map.proofs.Search.{first_is, last_is}
use Rattle.ordered_map.proofs.map.chunk_of.Goals as goal

pub returns-then-first-chunks : goal.returns-then-first-chunks
returns-then-first-chunks g c =
    first_is g.met.K.Ord.total c.args.key.now c.args.chunks.now c.first_reaching_near-first.result c.requires.filled c.requires.ordered c.if-first-chunks.true c.first_reaching_near-first.ensures.point

pub returns-else-first-chunks : goal.returns-else-first-chunks
returns-else-first-chunks g c =
    let all : length c.args.chunks.now ≤ c.first_reaching_near-first.result = c.if-first-chunks.false in
    last_is g.met.K.Ord.total c.args.key.now c.args.chunks.now (length c.args.chunks.now - 1) c.requires.ordered (omega (arith, c.requires.some))
    (λ j d below. c.first_reaching_near-first.ensures.point.0 j d (omega arith) (omega arith))
