-- The mark of the dirt.
use Rattle.std.proofs.Common.{ap, ◌∙◌}
use Rattle.std.specs.Option.{option_map}
use Rattle.sector_bytes.specs.SectorMaps.{value_at}
use Rattle.clerk_cache.proofs.Edits.{mark_found}
use Rattle.clerk_cache.proofs.cache.Cache.mark.Goals as goal

pub returns-in-Some : goal.returns-in-Some
returns-in-Some c = ap (option_map (λ dirt. dirt.mark)) c.in-Some.ensures ∙ mark_found (value_at c.args.self.now.entries c.args.sector.0)

pub returns-in-None : goal.returns-in-None
returns-in-None c = ap (option_map (λ dirt. dirt.mark)) c.in-None.ensures ∙ mark_found (value_at c.args.self.now.entries c.args.sector.0)
