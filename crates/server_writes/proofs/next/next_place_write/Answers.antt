-- Where no earlier cause has a sector, one of the last cause is one of all.
use Rattle.std.proofs.Common.{subst}
use Rattle.clerk_cache.specs.Dropping.{numbers_of}
use Rattle.server_core.specs.States.{cached_in}
use Rattle.server_writes.specs.Wants.{IsOneOf, is_one_pending, is_one_pressed, line_wants, ready_and, stays_wanted}
use Rattle.server_writes.proofs.Causes.{by_these}
use Rattle.server_writes.proofs.next.next_place_write.Goals as goal

pub returns : goal.returns
returns c stage room =
    let s = c.args.server.now in
    let locks = c.args.table.now.locks in
    by_these locks s stage (numbers_of c.args.room.now) room c.next_of_these.result
    (subst (IsOneOf (ready_and (cached_in s) s.server.ring.reached (stays_wanted s.server)) s.server.cache) c.in_default.is c.next_staying.ensures)
    (subst (IsOneOf (ready_and (cached_in s) s.server.ring.reached (is_one_pending s.server)) s.server.cache) c.in_default-next_pending.is c.next_pending.ensures)
    (subst (IsOneOf (ready_and (cached_in s) s.server.ring.reached (line_wants s.server)) s.server.cache) c.in_default-next_of_line.is c.next_of_line.ensures)
    (subst (IsOneOf (ready_and (cached_in s) s.server.ring.reached (is_one_pressed locks s.id)) s.server.cache) c.in_default-next_pressed.is c.next_pressed.ensures)
    c.next_of_these.ensures
