-- What contracts see of the cached sectors that may be used.
use Rattle.disk_definitions.specs.Written.{Cached}

-- the sectors with their blocks, ascending by sector
pub record UsableSectors : Type 0 where
  pub entries : Cached
