-- Writes of a replay that fail in time.
use Rattle.std.specs.Prelude.{◌≡◌, ◌==◌, ℕ, Bool, true, false, Some}
use Rattle.sector_bytes.specs.SectorMaps.{value_at}
use Rattle.core_definitions.specs.Events.{Arrive, PutFailed}
use Rattle.core_definitions.specs.Flights as core
use Rattle.core_definitions.specs.Runs.{State as RunMoment, Makes, next}
use Rattle.core_definitions.specs.Scripts.{host_party}
use Rattle.sector_world.specs.Kinds.{Good}
use Rattle.sector_world.specs.World.{World}
use Rattle.core_world.specs.Events.{LeadsQuietly}
use Rattle.core_world.specs.Journals.{Journal}
use Rattle.core_world.specs.Steps.{IsReached, IsWorldOf}
use Rattle.core_world.specs.Ties.{is_log_sector}

-- one of a server's recovery in no log, which leaves the new sector or the old one
abbrev pub RescuesFail : Type 0
RescuesFail =
    (s : RunMoment) (w : World) (journal : ℕ → Journal) (ticket : ℕ) (flight : core.Flight) (new : Bool) → IsReached s → IsWorldOf s w journal → Good w →
    value_at s.core.flights ticket ≡ Some flight → flight.purpose ≡ core.OfRecovery → is_log_sector s.core.setting.segments flight.sector ≡ false → (flight.server == host_party) ≡ false →
    Makes s (Arrive ticket) (PutFailed new) → LeadsQuietly w (next s (Arrive ticket) (PutFailed new)) journal

-- one of the host's recovery in no log, which leaves the new sector: it is over then
abbrev pub HostRescuesFail : Type 0
HostRescuesFail =
    (s : RunMoment) (w : World) (journal : ℕ → Journal) (ticket : ℕ) (flight : core.Flight) → IsReached s → IsWorldOf s w journal → Good w → value_at s.core.flights ticket ≡ Some flight →
    flight.purpose ≡ core.OfRecovery → is_log_sector s.core.setting.segments flight.sector ≡ false → (flight.server == host_party) ≡ true → Makes s (Arrive ticket) (PutFailed true) →
    LeadsQuietly w (next s (Arrive ticket) (PutFailed true)) journal

-- one of the host that leaves the old sector, in a log too: it is over then
abbrev pub HostWritesFail : Type 0
HostWritesFail =
    (s : RunMoment) (w : World) (journal : ℕ → Journal) (ticket : ℕ) (flight : core.Flight) → IsReached s → IsWorldOf s w journal → value_at s.core.flights ticket ≡ Some flight →
    (flight.server == host_party) ≡ true → Makes s (Arrive ticket) (PutFailed false) → LeadsQuietly w (next s (Arrive ticket) (PutFailed false)) journal
