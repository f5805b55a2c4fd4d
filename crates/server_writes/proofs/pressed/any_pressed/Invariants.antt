-- Of the sectors that are left one passes exactly where one of all does.
use Rattle.std.proofs.Common.{◌≡◌, drop}
use Rattle.std.specs.List.{list_any}
use Rattle.server_core.specs.States.{cached_in}
use Rattle.server_writes.specs.Wants.{is_one_pressed, ready_and}
use Rattle.server_writes.proofs.pressed.any_pressed.Given as goal

abbrev pub invariant-loop-i : goal.invariant-loop-i
invariant-loop-i l = list_any (ready_and (cached_in l.server) l.server.server.ring.reached (is_one_pressed l.table.locks l.server.id)) (drop l.i l.server.server.cache)
    ≡ list_any (ready_and (cached_in l.server) l.server.server.ring.reached (is_one_pressed l.table.locks l.server.id)) l.server.server.cache
