-- Where writes are wanted, by kinds: of the log, in place, of a recovery.
use Rattle.std.specs.Prelude.{◌≡◌, ℕ, ◌+◌, Bool, true, false, ◌&&◌, not, is_some, Option, Some, None, drop}
use Rattle.std.specs.List.{list_any}
use Rattle.std.specs.Option.{option_map, unwrap_or}
use Rattle.frang_base.specs.declared.sector.Sector.{Sector}
use Rattle.sector_bytes.specs.SectorMaps.{value_at}
use Rattle.cache_definitions.specs.Caches.{Cache}
use Rattle.core_definitions.specs.Cores.{Core, stage}
use Rattle.recovery_demon.specs.Recovering.{Recovering, writes_wanted}
use Rattle.server_writes.specs.Lists.{write_at}
use Rattle.server_issues.specs.Issuing.{Issuing, wanted_number}

-- a sector that passes; where there is none, none of those chosen passes
abbrev pub IsOneAmong : (ℕ → Bool) → (ℕ → Bool) → Option Sector → Type 0
IsOneAmong chosen passes None = (sector : ℕ) → chosen sector ≡ true → passes sector ≡ false
IsOneAmong chosen passes (Some sector) = passes sector.0 ≡ true

-- of the sector cached at a place: it passes; where none is told, from behind it on one passes exactly where one does from it on
abbrev pub IsAtPlace : (ℕ → Bool) → Cache → ℕ → Option Sector → Type 0
IsAtPlace passes cache i None = list_any (λ entry. passes entry.0) (drop (i + 1) cache) ≡ list_any (λ entry. passes entry.0) (drop i cache)
IsAtPlace passes cache i (Some sector) = passes sector.0 ≡ true

-- the log's next write is of it, and is wanted
abbrev pub is_log_at : Issuing → Core → ℕ → Bool
is_log_at i c sector = is_some (wanted_number i.locks i.server.id i.server.server (stage c i.server.id) sector)

-- it is wanted in place, and not for the log
abbrev pub is_place_at : Issuing → Core → ℕ → Bool
is_place_at i c sector = not (is_log_at i c sector) && is_some (write_at i.locks i.server.id i.server.server (stage c i.server.id) sector)

-- it is cached
abbrev pub is_cached_at : Issuing → ℕ → Bool
is_cached_at i sector = is_some (value_at i.server.server.cache sector)

-- a recovery wants it written, and hasn't issued that
abbrev pub is_rescue_of : Recovering → ℕ → Bool
is_rescue_of r sector = is_some (value_at (writes_wanted r.segments r.recovery r.issued) sector)

abbrev pub is_rescue_at : Issuing → ℕ → Bool
is_rescue_at i sector = unwrap_or (option_map (λ r. is_rescue_of r sector) i.recovery) false
