-- Blocks are compared byte by byte.
use Rattle.std.proofs.Common.{false, ap, sym, ◌∙◌}
use Rattle.std.specs.Option.{option_map_or}
use Rattle.std.specs.Str.{bytes_eq}
use Rattle.cache_definitions.specs.Caches.{block_at}
use Rattle.sector_bytes.specs.SectorMaps.{value_at}
use Rattle.clerk_cache.proofs.Edits.{had_still}
use Rattle.clerk_cache.proofs.Joining.{block_at-joined}
use Rattle.clerk_cache.proofs.cache.Cache.held_at.Goals as goal

pub returns-then-is_same : goal.returns-then-is_same
returns-then-is_same c =
    let view = c.in-Some.ensures ∙ block_at-joined _ _ c.args.sector.0 c.self.invariant.alike ∙ ap (λ cache. block_at cache.entries c.args.sector.0) c.self.view_is in
    sym c.if-is_same.true ∙ c.is_same.ensures ∙ ap (λ o. option_map_or (λ held. bytes_eq held c.args.block.now) o false) view ∙ had_still (value_at c.args.self.now.entries c.args.sector.0) c.args.block.now

pub returns-else-is_same : goal.returns-else-is_same
returns-else-is_same c =
    let view = c.in-Some.ensures ∙ block_at-joined _ _ c.args.sector.0 c.self.invariant.alike ∙ ap (λ cache. block_at cache.entries c.args.sector.0) c.self.view_is in
    sym c.if-is_same.false ∙ c.is_same.ensures ∙ ap (λ o. option_map_or (λ held. bytes_eq held c.args.block.now) o false) view ∙ had_still (value_at c.args.self.now.entries c.args.sector.0) c.args.block.now

pub returns-in-None : goal.returns-in-None
returns-in-None c =
    let view = c.in-None.ensures ∙ block_at-joined _ _ c.args.sector.0 c.self.invariant.alike ∙ ap (λ cache. block_at cache.entries c.args.sector.0) c.self.view_is in
    ap (λ o. option_map_or (λ held. bytes_eq held c.args.block.now) o false) view ∙ had_still (value_at c.args.self.now.entries c.args.sector.0) c.args.block.now
