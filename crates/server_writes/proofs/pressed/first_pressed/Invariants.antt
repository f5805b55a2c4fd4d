-- The first of those left is the first of all.
use Rattle.std.proofs.Common.{◌≡◌, drop}
use Rattle.lock_definitions.specs.Calls.{revokes}
use Rattle.server_core.specs.States.{cached_in}
use Rattle.server_writes.specs.Wants.{first_of, next_if_sole}
use Rattle.server_writes.proofs.pressed.first_pressed.Given as goal

abbrev pub invariant-loop-place : goal.invariant-loop-place
invariant-loop-place l = first_of (next_if_sole l.table.locks l.server.id (cached_in l.server) l.server.server.ring.reached) (drop l.place (revokes l.table.locks l.server.id))
    ≡ first_of (next_if_sole l.table.locks l.server.id (cached_in l.server) l.server.server.ring.reached) (revokes l.table.locks l.server.id)
