-- What is listed, with that of the pieces that are left, is that of all.
use Rattle.std.proofs.Common.{◌≡◌, ◌++◌, drop}
use Rattle.known_locks.proofs.Listing.{held_pieces}
use Rattle.known_locks.proofs.clerk.Clerk.held.Given as goal

abbrev pub invariant-loop-piece : goal.invariant-loop-piece
invariant-loop-piece l = l.list ++ held_pieces (drop l.piece-index l.piece-items) ≡ held_pieces l.piece-items
