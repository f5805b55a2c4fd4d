-- The room in the table and beside it stays.
use Rattle.std.proofs.Common.{subst}
use Rattle.lock_table.specs.Table.{KeepsRoom}
use Rattle.known_locks.specs.Beside.{known_table}
use Rattle.known_locks.proofs.Rooms.{keeps_room}
use Rattle.known_locks.proofs.known.KnownLocks.clear.Goals as goal

pub returns-clause-room : goal.returns-clause-room
returns-clause-room c = subst (λ table. KeepsRoom table (known_table c.clear.new.self c.end.new.self.room)) c.self.view_is
    (keeps_room c.self.inside.table c.clear.new.self c.self.inside.clerks.room c.end.new.self.room c.clear.ensures.room c.end.ensures.room)
