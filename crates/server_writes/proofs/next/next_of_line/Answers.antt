-- An unmount wants any, a sync those of file bytes, and another line none.
use Rattle.std.proofs.Common.{◌≡◌, true, false, ◌&&◌, sym, ap, ◌∙◌, subst}
use Rattle.sector_bytes.specs.SectorMaps.{Ascend}
use Rattle.tree_definitions.specs.Touched.{is_sync, is_unmount}
use Rattle.core_definitions.specs.Servers.{asks}
use Rattle.clerk_cache.specs.Marks.{is_one, is_one_of_bytes}
use Rattle.server_core.specs.States.{cached_in}
use Rattle.server_writes.specs.Wants.{is_ready, line_wants, ready_and}
use Rattle.server_writes.proofs.LineWants.{all_wanted, bytes_wanted, none_wanted}
use Rattle.server_writes.proofs.Listed.{none_passes}
use Rattle.server_writes.proofs.Ordered.{told_next}
use Rattle.server_writes.proofs.Parts.{by_same}
use Rattle.server_writes.proofs.next.next_of_line.Goals as goal

pub returns-then-asks_unmount : goal.returns-then-asks_unmount
returns-then-asks_unmount c =
    let s = c.args.server.now in
    let unmount : asks is_unmount s.server ≡ true = cc in
    by_same (ready_and (cached_in s) s.server.ring.reached is_one) (ready_and (cached_in s) s.server.ring.reached (line_wants s.server)) s.server.cache c.next_idle.result
    (λ e. ap (λ t. is_ready s.flying s.server.ring.reached e && t) (all_wanted s.server e unmount))
    (told_next (λ cache. is_one) c.cache-cache.result.now (cached_in s) c.reached.result s.server.ring.reached c.next_idle.result
    c.cache-cache.ensures c.reached.ensures c.next_idle.ensures c.cover-cover.ensures.ordered)

pub returns-then-asks_sync : goal.returns-then-asks_sync
returns-then-asks_sync c =
    let s = c.args.server.now in
    let unmount : asks is_unmount s.server ≡ false = cc in
    let sync : asks is_sync s.server ≡ true = cc in
    by_same (ready_and (cached_in s) s.server.ring.reached is_one_of_bytes) (ready_and (cached_in s) s.server.ring.reached (line_wants s.server)) s.server.cache c.next_bytes.result
    (λ e. ap (λ t. is_ready s.flying s.server.ring.reached e && t) (bytes_wanted s.server e unmount sync))
    (told_next (λ cache. is_one_of_bytes) c.cache-cache.result.now (cached_in s) c.reached-then-asks_sync.result s.server.ring.reached c.next_bytes.result
    c.cache-cache.ensures c.reached-then-asks_sync.ensures c.next_bytes.ensures c.cover-cover.ensures.ordered)

pub returns-else-asks_sync : goal.returns-else-asks_sync
returns-else-asks_sync c =
    let s = c.args.server.now in
    let unmount : asks is_unmount s.server ≡ false = cc in
    let sync : asks is_sync s.server ≡ false = cc in
    let sorted : Ascend s.server.cache = subst (λ cache. Ascend cache.entries) c.cache-cache.ensures c.cover-cover.ensures.ordered in
    none_passes (cached_in s) s.server.ring.reached sorted (line_wants s.server) (λ e. none_wanted s.server e unmount sync)
