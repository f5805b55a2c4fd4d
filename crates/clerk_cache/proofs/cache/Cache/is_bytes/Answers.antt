-- What the dirt says.
use Rattle.std.proofs.Common.{false, ap, ◌∙◌}
use Rattle.std.specs.Option.{option_map, unwrap_or}
use Rattle.sector_bytes.specs.SectorMaps.{value_at}
use Rattle.clerk_cache.proofs.Edits.{bytes_found}
use Rattle.clerk_cache.proofs.cache.Cache.is_bytes.Goals as goal

pub returns-in-Some : goal.returns-in-Some
returns-in-Some c = ap (λ o. unwrap_or (option_map (λ dirt. dirt.is_bytes) o) false) c.in-Some.ensures ∙ bytes_found (value_at c.args.self.now.entries c.args.sector.0)

pub returns-in-None : goal.returns-in-None
returns-in-None c = ap (λ o. unwrap_or (option_map (λ dirt. dirt.is_bytes) o) false) c.in-None.ensures ∙ bytes_found (value_at c.args.self.now.entries c.args.sector.0)
