-- What stands at the sector is what the change makes of it.
use Rattle.std.proofs.Common.{false, ap, ◌∙◌}
use Rattle.std.specs.Option.{option_map}
use Rattle.sector_bytes.specs.Changes.{changed}
use Rattle.sector_bytes.proofs.MapLaws.{value_at-adjusted}
use Rattle.cache_definitions.specs.Caches.{dirty}
use Rattle.clerk_cache.proofs.laws.a_change_leaves_its_sector_dirty.Goals as goal

pub returns : goal.returns
returns c = λ contents change mark cover cached there.
    value_at-adjusted (λ c. dirty (changed c.block change) cover mark false) contents change.sector.0 ∙ ap (option_map (λ c. dirty (changed c.block change) cover mark false)) there
