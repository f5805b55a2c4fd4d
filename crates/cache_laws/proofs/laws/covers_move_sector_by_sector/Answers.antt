-- The law, as it is proved of entries.
use Rattle.cache_laws.proofs.Stepping.{covers_move_sector_by_sector}
use Rattle.cache_laws.proofs.laws.covers_move_sector_by_sector.Goals as goal

pub returns : goal.returns
returns c = record { moved = covers_move_sector_by_sector }
