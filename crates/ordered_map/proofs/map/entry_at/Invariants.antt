-- What is looked for lies in the rest, at the rest of the place.
use Rattle.std.proofs.Common.{◌≡◌, drop}
use Rattle.std.specs.List.{slice_get}
use Rattle.ordered_map.specs.Chunks.{joined}
use Rattle.ordered_map.proofs.map.entry_at.Given as goal

abbrev pub invariant-loop-chunk : goal.invariant-loop-chunk
invariant-loop-chunk g l = slice_get (joined (drop l.chunk-index l.chunks)) l.rest ≡ slice_get (joined l.chunks) l.fn.i
