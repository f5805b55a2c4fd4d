-- The room in the table and beside it stays.
use Rattle.std.proofs.Common.{subst, arith}
use Rattle.lock_table.specs.Table.{KeepsRoom}
use Rattle.known_locks.specs.Beside.{known_table}
use Rattle.known_locks.proofs.Rooms.{keeps_room}
use Rattle.known_locks.proofs.known.KnownLocks.extend.Goals as goal

pub returns-clause-room : goal.returns-clause-room
returns-clause-room c = subst (λ table. KeepsRoom table (known_table c.extend.new.self c.self.inside.clerks.room)) c.self.view_is
    (keeps_room c.self.inside.table c.extend.new.self c.self.inside.clerks.room c.self.inside.clerks.room c.extend.ensures.room (λ s. omega arith))
