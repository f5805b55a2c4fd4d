-- One of those that are pending is found in their list.
use Rattle.std.proofs.Common.{sym, subst}
use Rattle.sector_bytes.specs.SectorMaps.{Ascend}
use Rattle.server_core.specs.States.{cached_in}
use Rattle.server_writes.specs.Wants.{IsOneOf, is_one_pending, ready_and}
use Rattle.server_writes.proofs.Listed.{in_list}
use Rattle.server_writes.proofs.next.next_pending.Goals as goal

pub returns : goal.returns
returns c =
    let s = c.args.server.now in
    let sorted : Ascend s.server.cache = subst (λ cache. Ascend cache.entries) c.cache.ensures c.cover-cover.ensures.ordered in
    subst (IsOneOf (ready_and (cached_in s) s.server.ring.reached (is_one_pending s.server)) s.server.cache) (sym c.first_pending.ensures)
    (in_list (cached_in s) s.server.ring.reached sorted s.server.pending)
