-- A key that lies in its chunk is located there.
use Rattle.std.proofs.Common.{subst}
use Rattle.std.proofs.lemmas.Bool.{false≢true}
use Rattle.ordered_map.specs.Chunks.{IsKeyAt}
use Rattle.ordered_map.proofs.Found.{located_there}
use Rattle.ordered_map.proofs.map.is_there.Goals as goal

pub returns-then-chunk-chunks : goal.returns-then-chunk-chunks
returns-then-chunk-chunks g c = λ equal.
    let place = c.args.place in
    located_there g.met.K.Ord.total c.args.key.now c.args.chunks.now c.requires.ordered place.chunk place.at c.if-chunk-chunks.true
    (subst (λ xs. IsKeyAt g.K.Ord.cmp c.args.key.now xs place.at) c.nth.ensures (c.has_at.ensures equal))

pub returns-else-chunk-chunks : goal.returns-else-chunk-chunks
returns-else-chunk-chunks g c = λ equal. absurd (false≢true equal)
