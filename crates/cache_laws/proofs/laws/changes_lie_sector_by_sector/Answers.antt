-- The law, as it is proved of entries.
use Rattle.cache_laws.proofs.Stepping.{changes_lie_sector_by_sector}
use Rattle.cache_laws.proofs.laws.changes_lie_sector_by_sector.Goals as goal

pub returns : goal.returns
returns c = record { laid = changes_lie_sector_by_sector }
