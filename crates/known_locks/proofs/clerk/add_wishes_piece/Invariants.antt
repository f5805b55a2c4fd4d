-- What is listed, with that of the rest, is that of all.
use Rattle.std.proofs.Common.{◌≡◌, ◌++◌, drop}
use Rattle.known_locks.specs.Listed.{wishes_in}
use Rattle.known_locks.proofs.clerk.add_wishes_piece.Given as goal

abbrev pub invariant-loop-entry : goal.invariant-loop-entry
invariant-loop-entry l = l.list ++ wishes_in (drop l.entry-index l.piece) ≡ l.fn.list ++ wishes_in l.piece
