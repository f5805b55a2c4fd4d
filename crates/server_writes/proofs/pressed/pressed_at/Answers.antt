-- By whether there is one at the place, and it passes.
use Rattle.std.proofs.Common.{◌≡◌, ℕ, Bool, Option, Some, None, sym, ap, ◌∙◌, subst}
use Rattle.std.specs.List.{slice_get}
use Rattle.std.specs.Option.{option_map}
use Rattle.sector_bytes.specs.SectorMaps.{Ascend}
use Rattle.cache_definitions.specs.Caches.{CachedSector, blocks_of}
use Rattle.server_core.specs.States.{cached_in}
use Rattle.server_writes.specs.Wants.{is_one_pressed, ready_and}
use Rattle.server_writes.proofs.Cached.{tested_beyond, tested_over}
use Rattle.server_writes.proofs.pressed.pressed_at.Goals as goal

pub returns-in_default : goal.returns-in_default
returns-in_default c =
    let s = c.args.server.now in
    let sorted : Ascend s.server.cache = subst (λ cache. Ascend cache.entries) c.cache.ensures c.cover-cover.ensures.ordered in
    let none : slice_get (blocks_of s.server.cache) c.args.i ≡ None =
    sym (c.at.ensures ∙ ap (λ es. slice_get es c.args.i) (c.sectors.ensures ∙ ap (λ cache. blocks_of cache.entries) c.cache-2.ensures)) ∙ ap (option_map (λ entry. (entry.0.0, entry.1.now))) c.in_default.is in
    tested_beyond (ready_and (cached_in s) s.server.ring.reached (is_one_pressed c.args.table.now.locks s.id)) s.server.cache sorted c.args.i none

pub returns-else-is_ready_pressed : goal.returns-else-is_ready_pressed
returns-else-is_ready_pressed c =
    let s = c.args.server.now in
    let sorted : Ascend s.server.cache = subst (λ cache. Ascend cache.entries) c.cache.ensures c.cover-cover.ensures.ordered in
    let at = sym (c.at.ensures ∙ ap (λ es. slice_get es c.args.i) (c.sectors.ensures ∙ ap (λ cache. blocks_of cache.entries) c.cache-2.ensures)) ∙ ap (option_map (λ entry. (entry.0.0, entry.1.now))) c.in-Some.is in
    tested_over (ready_and (cached_in s) s.server.ring.reached (is_one_pressed c.args.table.now.locks s.id)) s.server.cache sorted c.args.i c.in-Some.sector.0 _ at
    (sym c.is_ready_pressed.ensures ∙ c.if-is_ready_pressed.false)
