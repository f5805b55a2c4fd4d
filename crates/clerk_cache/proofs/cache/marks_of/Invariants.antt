-- The marks so far, and then those of the pieces that are left, are all.
use Rattle.std.proofs.Common.{◌≡◌, ◌++◌, drop}
use Rattle.ordered_map.specs.Chunks.{joined}
use Rattle.clerk_cache.specs.Kept.{state_marks}
use Rattle.clerk_cache.proofs.cache.marks_of.Given as goal

abbrev pub invariant-loop-piece : goal.invariant-loop-piece
invariant-loop-piece l = l.marks.items ++ state_marks (joined (drop l.piece-index l.pieces)) ≡ state_marks (joined l.pieces)
