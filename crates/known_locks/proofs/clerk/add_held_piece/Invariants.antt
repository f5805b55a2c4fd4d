-- What is listed, with that of the rest, is that of all.
use Rattle.std.proofs.Common.{◌≡◌, ◌++◌, drop}
use Rattle.known_locks.specs.Listed.{held_in}
use Rattle.known_locks.proofs.clerk.add_held_piece.Given as goal

abbrev pub invariant-loop-entry : goal.invariant-loop-entry
invariant-loop-entry l = l.list ++ held_in (drop l.entry-index l.piece) ≡ l.fn.list ++ held_in l.piece
