-- There is room in both after room was made in both.
use Rattle.std.proofs.Common.{IsOk, sym, subst}
use Rattle.std.proofs.lemmas.Result.{on_ok_weaker}
use Rattle.lock_table.specs.Table.{HasRoom}
use Rattle.known_locks.proofs.Rooms.{room_in_table, room_in_both, space_beside}
use Rattle.known_locks.proofs.known.KnownLocks.reserve.Goals as goal

pub returns-in_err-reserve-clause-sure : goal.returns-in_err-reserve-clause-sure
returns-in_err-reserve-clause-sure c = λ had.
    let room = subst (λ table. HasRoom table c.args.server.0 c.args.lock) (sym c.self.view_is) had in
    cc (subst IsOk c.in_err-reserve.was (c.reserve.ensures.sure (space_beside c.self.inside.table.room c.self.inside.clerks.room room.1)))

pub returns-clause-ok : goal.returns-clause-ok
returns-clause-ok c = on_ok_weaker c.reserve-2.result (λ room. room_in_both c.reserve-2.new.self c.reserve.new.self.room c.args.server.0 c.args.lock room c.in_ok-reserve.ensures.ok) c.reserve-2.ensures.ok

pub returns-clause-sure : goal.returns-clause-sure
returns-clause-sure c = λ had. c.reserve-2.ensures.sure (room_in_table c.self.inside.table c.self.inside.clerks.room c.args.server.0 c.args.lock (subst (λ table. HasRoom table c.args.server.0 c.args.lock) (sym c.self.view_is) had))
