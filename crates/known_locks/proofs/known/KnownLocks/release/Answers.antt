-- Who holds the lock is one of the sixteen, and its claim needs no room.
use Rattle.std.proofs.Common.{IsSome, sym, subst}
use Rattle.lock_definitions.specs.Locks.{held}
use Rattle.lock_table.specs.Table.{KeepsRoom}
use Rattle.known_locks.specs.Beside.{known_table}
use Rattle.known_locks.proofs.Rooms.{keeps_room, holder_inside, held_needs_none}
use Rattle.known_locks.proofs.known.KnownLocks.release.Goals as goal

pub put-requires-clause-server : goal.put-requires-clause-server
put-requires-clause-server c = holder_inside c.self.inside.table.locks c.self.inside.clerks.claims c.args.server.0 c.args.lock c.claim.result c.self.invariant.claims c.claim.ensures.claim c.claim.ensures.past
    (subst (λ table. IsSome (held table.locks c.args.server.0 c.args.lock)) (sym c.self.view_is) c.requires)

pub returns-clause-room : goal.returns-clause-room
returns-clause-room c =
    let some = subst (λ table. IsSome (held table.locks c.args.server.0 c.args.lock)) (sym c.self.view_is) c.requires in
    subst (λ table. KeepsRoom table (known_table c.release.new.self c.put.new.self.room)) c.self.view_is
    (keeps_room c.self.inside.table c.release.new.self c.self.inside.clerks.room c.put.new.self.room c.release.ensures.room
    (c.put.ensures.room (held_needs_none c.self.inside.table.locks c.self.inside.clerks.claims c.args.server.0 c.args.lock c.self.invariant.claims some)))
