-- One under a lock that is held sole and asked is found by the locks that are asked.
use Rattle.std.proofs.Common.{sym, subst}
use Rattle.sector_bytes.specs.SectorMaps.{Ascend}
use Rattle.server_core.specs.States.{cached_in}
use Rattle.server_writes.specs.Wants.{IsOneOf, is_one_pressed, ready_and}
use Rattle.server_writes.proofs.Listed.{under_pressed}
use Rattle.server_writes.proofs.next.next_pressed.Goals as goal

pub returns-in-Ok : goal.returns-in-Ok
returns-in-Ok c =
    let s = c.args.server.now in
    let locks = c.args.table.now.locks in
    let sorted : Ascend s.server.cache = subst (λ cache. Ascend cache.entries) c.cache.ensures c.cover-cover.ensures.ordered in
    subst (IsOneOf (ready_and (cached_in s) s.server.ring.reached (is_one_pressed locks s.id)) s.server.cache) (sym c.in-Ok.ensures) (under_pressed (cached_in s) s.server.ring.reached sorted locks s.id)
