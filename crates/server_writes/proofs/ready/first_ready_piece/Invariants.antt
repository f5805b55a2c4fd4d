-- The first of those left is the first of all.
use Rattle.std.proofs.Common.{◌≡◌, drop}
use Rattle.ordered_map.specs.Chunks.{joined}
use Rattle.server_core.specs.States.{cached_in}
use Rattle.server_writes.specs.Wants.{first_of, ready_sector}
use Rattle.server_writes.proofs.ready.first_ready_piece.Given as goal

abbrev pub invariant-loop-piece : goal.invariant-loop-piece
invariant-loop-piece l = first_of (λ key. ready_sector (cached_in l.server) l.server.server.ring.reached key.0) (joined (drop l.piece-index l.pieces)) ≡ first_of (λ key. ready_sector (cached_in l.server) l.server.server.ring.reached key.0) (joined l.pieces)
