-- How the wanted writes of one sector lie over one another, as a statement.
use Rattle.std.specs.Prelude.{◌≡◌, ℕ, Option}
use Rattle.std.specs.Option.{option_or}
use Rattle.sector_bytes.specs.SectorMaps.{value_at}
use Rattle.lock_definitions.specs.Locks.{Locks}
use Rattle.core_definitions.specs.Lines.{Stage}
use Rattle.core_definitions.specs.Rings.{next_write}
use Rattle.core_definitions.specs.Servers.{Server}
use Rattle.core_definitions.specs.Settings.{Setting}
use Rattle.core_definitions.specs.Writes.{log_wanted_to, log_write, place_writes, rescue_writes, wanted_writes}
use Rattle.server_issues.specs.Doubled.{last_at}

-- at each sector the write of the log counts before one in place, and that before one of a recovery; of several of one kind the last
abbrev pub TheLogCountsFirst : Type 0
TheLogCountsFirst = (setting : Setting) (locks : Locks) (number : ℕ) (server : Server) (stage : Option Stage) (sector : ℕ)
    → value_at (wanted_writes setting locks number server stage) sector
    ≡ option_or (value_at (log_write setting.logs number (log_wanted_to setting.logs locks number server stage) (next_write server.ring)) sector)
    (option_or (last_at (place_writes setting.logs locks number server stage) sector) (last_at (rescue_writes setting.logs setting.segments server.recovery) sector))
