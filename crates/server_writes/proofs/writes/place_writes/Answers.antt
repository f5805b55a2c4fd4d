-- At the end the writes of all marks are listed.
use Rattle.std.proofs.Common.{◌≡◌, [], ◌++◌, drop, map, append-nil, sym, ap, ◌∙◌, subst, arith}
use Rattle.std.proofs.lemmas.List.{drop_all}
use Rattle.std.specs.List.{filter_map}
use Rattle.sector_bytes.specs.SectorMaps.{Ascend}
use Rattle.clerk_cache.specs.Marks.{marks_of}
use Rattle.server_writes.specs.Lists.{entry_of}
use Rattle.server_writes.proofs.Sectorwise.{by_marks, of_mark}
use Rattle.server_writes.proofs.writes.place_writes.Goals as goal

pub returns : goal.returns
returns c stage waiting =
    let s = c.args.server.now in
    let locks = c.args.table.now.locks in
    let marks = c.deref-mark-items.result.now in
    let listed = map (entry_of s.id) c.loop-mark.list.items in
    let sorted : Ascend s.server.cache = subst (λ cache. Ascend cache.entries) c.cache-cache.ensures c.cover-cover.ensures.ordered in
    let ended : drop c.loop-mark.mark-index marks ≡ [] = drop_all c.loop-mark.mark-index marks (omega arith) in
    let told : marks ≡ marks_of s.server.cache = c.deref-mark-items.ensures.value ∙ c.in_ok-dirty.ensures.marks ∙ ap (λ cache. marks_of cache.entries) c.cache-cache.ensures in
    sym (append-nil listed) ∙ ap (λ left. listed ++ filter_map (of_mark locks s.id s.server stage) left) (sym ended) ∙ c.loop-mark.invariant stage waiting
    ∙ ap (filter_map (of_mark locks s.id s.server stage)) told ∙ by_marks locks s.id s.server stage sorted
