-- What contracts see of a cache that keeps flags of its sectors: a dirty one stays wanted until it is clean; of a sector a write is in flight.
use Rattle.std.specs.Prelude.{ℕ, ◌==◌, Bool, not, ◌||◌, is_some, List, filter, fold}
use Rattle.std.specs.Map.{keys_of}
use Rattle.frang_base.specs.Functions.{member}
use Rattle.sector_bytes.specs.SectorMaps.{value_at}
use Rattle.cache_definitions.specs.Caches.{Cache}

-- its sectors; of these, ascending, those that stay wanted and those with a write in flight; and for how many more there is room
pub record FlaggedCache : Type 0 where
  pub entries : Cache
  pub staying : List ℕ
  pub flying : List ℕ
  pub spare : ℕ

-- the sectors but this one
abbrev pub but : ℕ → List ℕ → List ℕ
but sector sectors = filter (λ s. not (s == sector)) sectors

-- the sectors but these
abbrev pub but_all : List ℕ → List ℕ → List ℕ
but_all left sectors = fold (λ rest sector. but sector rest) sectors left

-- the cached sectors that are this one or among these
abbrev pub with_cached : Cache → ℕ → List ℕ → List ℕ
with_cached cache sector sectors = keys_of (filter (λ entry. entry.0 == sector || member entry.0 sectors) cache)

-- those of these sectors that are cached
abbrev pub among_cached : Cache → List ℕ → List ℕ
among_cached cache sectors = filter (λ s. is_some (value_at cache s)) sectors
