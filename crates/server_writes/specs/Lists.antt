-- The writes in place that a server wants, sector by sector.
use Rattle.std.specs.Prelude.{ℕ, Option, Some}
use Rattle.std.specs.Option.{option_and_then, option_map}
use Rattle.lock_definitions.specs.Locks.{Locks}
use Rattle.sector_bytes.specs.SectorMaps.{value_at}
use Rattle.log_slots.specs.Reading.{log_rules}
use Rattle.core_definitions.specs.Flights.{InPlace}
use Rattle.core_definitions.specs.Lines.{Stage}
use Rattle.core_definitions.specs.Servers.{Server}
use Rattle.core_definitions.specs.Writes.{Write, is_place_wanted, place_write}
use Rattle.server_writes.specs.declared.writes.PlaceWrite.{PlaceWrite}

-- the write that it is of this server
abbrev pub write_of : ℕ → PlaceWrite → Write
write_of number write = record { behalf = number; block = write.block; purpose = InPlace write.cover; mark = Some write.mark }

-- with its sector
abbrev pub entry_of : ℕ → PlaceWrite → ℕ × Write
entry_of number write = (write.sector.0, write_of number write)

-- the write of a sector, where it is wanted
abbrev pub write_at : Locks → ℕ → Server → Option Stage → ℕ → Option Write
write_at locks number server stage sector =
    option_and_then (λ cached. place_write number (is_place_wanted log_rules locks number server stage sector cached) cached cached.dirt) (value_at server.cache sector)

-- with the sector
abbrev pub entry_at : Locks → ℕ → Server → Option Stage → ℕ → Option (ℕ × Write)
entry_at locks number server stage sector = option_map (λ write. (sector, write)) (write_at locks number server stage sector)
