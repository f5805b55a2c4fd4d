-- Along the cache.
use Rattle.cache_definitions.proofs.CacheLaws.{any_first}
use Rattle.cache_definitions.proofs.laws.some_sector_passes_where_a_first_does.Goals as goal

pub returns : goal.returns
returns c = any_first
