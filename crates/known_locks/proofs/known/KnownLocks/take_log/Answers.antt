-- The room in the table and beside it stays.
use Rattle.std.proofs.Common.{subst, arith}
use Rattle.lock_table.specs.Table.{KeepsRoom}
use Rattle.known_locks.specs.Beside.{known_table}
use Rattle.known_locks.proofs.Rooms.{keeps_room}
use Rattle.known_locks.proofs.known.KnownLocks.take_log.Goals as goal

pub returns-in-Ok-clause-room : goal.returns-in-Ok-clause-room
returns-in-Ok-clause-room c = subst (λ table. KeepsRoom table (known_table c.take_log.new.self c.self.inside.clerks.room)) c.self.view_is
    (keeps_room c.self.inside.table c.take_log.new.self c.self.inside.clerks.room c.self.inside.clerks.room c.take_log.ensures.room (λ s. omega arith))

pub returns-in-Err-clause-room : goal.returns-in-Err-clause-room
returns-in-Err-clause-room c = subst (λ table. KeepsRoom table (known_table c.take_log.new.self c.self.inside.clerks.room)) c.self.view_is
    (keeps_room c.self.inside.table c.take_log.new.self c.self.inside.clerks.room c.self.inside.clerks.room c.take_log.ensures.room (λ s. omega arith))
