-- What is read at a place is the chunk there.
use Rattle.ordered_map.proofs.Flat.{read_chunk}
use Rattle.ordered_map.proofs.map.nth.Goals as goal

pub returns : goal.returns
returns g c = read_chunk c.args.chunks.now c.args.chunk c.index-chunks-chunk.result c.requires c.index-chunks-chunk.is
