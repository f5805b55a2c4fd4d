-- What is listed, with that of the pieces that are left, is that of all.
use Rattle.std.proofs.Common.{◌≡◌, ◌++◌, drop}
use Rattle.known_locks.proofs.Listing.{wishes_pieces}
use Rattle.known_locks.proofs.clerk.Clerk.wishes.Given as goal

abbrev pub invariant-loop-piece : goal.invariant-loop-piece
invariant-loop-piece l = l.list ++ wishes_pieces (drop l.piece-index l.piece-items) ≡ wishes_pieces l.piece-items
