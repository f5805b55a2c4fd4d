-- What is listed, with the pieces that are left, are all.
use Rattle.std.proofs.Common.{◌≡◌, ◌++◌, drop}
use Rattle.ordered_map.specs.Chunks.{joined}
use Rattle.lock_table.proofs.table.listed.Given as goal

abbrev pub invariant-loop-piece : goal.invariant-loop-piece
invariant-loop-piece l = l.asked.items ++ joined (drop l.piece-index l.pieces) ≡ joined l.pieces
