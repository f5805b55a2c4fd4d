-- Where there is room in both, neither refuses.
use Rattle.std.proofs.Common.{IsOk, sym, subst}
use Rattle.lock_table.specs.Table.{HasRoom}
use Rattle.known_locks.proofs.Rooms.{room_in_table, space_beside}
use Rattle.known_locks.proofs.known.KnownLocks.want.Goals as goal

pub returns-in_err-reserve_one-clause-sure : goal.returns-in_err-reserve_one-clause-sure
returns-in_err-reserve_one-clause-sure c = λ had.
    let room = subst (λ table. HasRoom table c.args.server.0 c.args.lock) (sym c.self.view_is) had in
    cc (subst IsOk c.in_err-reserve_one.was (c.reserve_one.ensures.sure (space_beside c.self.inside.table.room c.self.inside.clerks.room room.1 c.args.server.0 c.requires)))

pub returns-in_err-answer-clause-sure : goal.returns-in_err-answer-clause-sure
returns-in_err-answer-clause-sure c = λ had.
    cc (subst IsOk c.in_err-answer.was (c.want.ensures.sure (room_in_table c.self.inside.table c.self.inside.clerks.room c.args.server.0 c.args.lock (subst (λ table. HasRoom table c.args.server.0 c.args.lock) (sym c.self.view_is) had))))
