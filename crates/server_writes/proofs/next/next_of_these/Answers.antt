-- One of these is found in their list.
use Rattle.std.proofs.Common.{sym, ◌∙◌, subst}
use Rattle.sector_bytes.specs.SectorMaps.{Ascend}
use Rattle.clerk_cache.specs.Dropping.{numbers_of}
use Rattle.server_core.specs.States.{cached_in}
use Rattle.server_writes.specs.Wants.{IsOneOf, is_one_of_these, ready_and, ready_sector}
use Rattle.server_writes.proofs.Listed.{in_list}
use Rattle.server_writes.proofs.Stepping.{first-map}
use Rattle.server_writes.proofs.next.next_of_these.Goals as goal

pub returns : goal.returns
returns c =
    let s = c.args.server.now in
    let sorted : Ascend s.server.cache = subst (λ cache. Ascend cache.entries) c.cache.ensures c.cover-cover.ensures.ordered in
    subst (IsOneOf (ready_and (cached_in s) s.server.ring.reached (is_one_of_these (numbers_of c.args.sectors.now))) s.server.cache)
    (sym (c.first_ready.ensures ∙ first-map (ready_sector (cached_in s) s.server.ring.reached) (λ sector. sector.0) c.args.sectors.now))
    (in_list (cached_in s) s.server.ring.reached sorted (numbers_of c.args.sectors.now))
