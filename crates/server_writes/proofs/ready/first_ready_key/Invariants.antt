-- The first of those left is the first of all.
use Rattle.std.proofs.Common.{◌≡◌, drop}
use Rattle.server_core.specs.States.{cached_in}
use Rattle.server_writes.specs.Wants.{first_of, ready_sector}
use Rattle.server_writes.proofs.ready.first_ready_key.Given as goal

abbrev pub invariant-loop-key : goal.invariant-loop-key
invariant-loop-key l = first_of (λ key. ready_sector (cached_in l.server) l.server.server.ring.reached key.0) (drop l.key-index l.piece) ≡ first_of (λ key. ready_sector (cached_in l.server) l.server.server.ring.reached key.0) l.piece
