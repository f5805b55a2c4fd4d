-- Writes of a seal that arrive in time, or fail.
use Rattle.std.specs.Prelude.{◌≡◌, ℕ, Bool, true, Some}
use Rattle.frang_base.specs.declared.lock.LockId.{LockId}
use Rattle.sector_bytes.specs.SectorMaps.{value_at}
use Rattle.sector_bytes.specs.Sectors.{Sectors}
use Rattle.core_definitions.specs.Events.{Arrive, Heard, PutFailed, Written}
use Rattle.core_definitions.specs.Flights as core
use Rattle.core_definitions.specs.Runs.{State as RunMoment, Makes, next}
use Rattle.sector_world.specs.Steps.{Event, after}
use Rattle.sector_world.specs.World.{World}
use Rattle.core_world.specs.Beside.{IsOutOfLogs, NoneInLogs}
use Rattle.core_world.specs.Events.{LeadsQuietly, first_world}
use Rattle.core_world.specs.Journals.{AreJournals, Journal}
use Rattle.core_world.specs.Steps.{IsReached, IsWorldOf}
use Rattle.core_world.specs.Ties.{is_log_sector}

-- how the journals go on is another law's, and asked for here
abbrev pub AreJournalsThen : RunMoment → World → Heard → ℕ → (ℕ → Journal) → Type 0
AreJournalsThen s w heard ticket new =
    AreJournals (next s (Arrive ticket) heard).core.servers (next s (Arrive ticket) heard).core.now (next s (Arrive ticket) heard).core.flights (next s (Arrive ticket) heard).disk w new

-- one of a recovery in a log is none where it arrives
abbrev pub SealsArrive : Type 0
SealsArrive =
    (s : RunMoment) (w : World) (journal further : ℕ → Journal) (ticket : ℕ) (flight : core.Flight) → IsReached s → IsWorldOf s w journal → value_at s.core.flights ticket ≡ Some flight →
    flight.purpose ≡ core.OfRecovery → is_log_sector s.core.setting.segments flight.sector ≡ true → NoneInLogs s.core.setting.segments w → Makes s (Arrive ticket) Written →
    AreJournalsThen s w Written ticket further → LeadsQuietly w (next s (Arrive ticket) Written) further

-- and where it fails it is a failure of its server, or the end where that is the host
abbrev pub SealsFail : Type 0
SealsFail =
    (s : RunMoment) (w : World) (journal further : ℕ → Journal) (ticket : ℕ) (flight : core.Flight) (new : Bool) → IsReached s → IsWorldOf s w journal →
    value_at s.core.flights ticket ≡ Some flight → flight.purpose ≡ core.OfRecovery → is_log_sector s.core.setting.segments flight.sector ≡ true → NoneInLogs s.core.setting.segments w →
    Makes s (Arrive ticket) (PutFailed new) → AreJournalsThen s w (PutFailed new) ticket further → LeadsQuietly w (next s (Arrive ticket) (PutFailed new)) further

-- ---- nothing in flight in a log

-- it stays at each event of the theorem on sectors by which nothing is issued in a log, and so it is at first
abbrev pub NoneInLogsStay : Type 0
NoneInLogsStay = (segments : ℕ) (w : World) (event : Event) → IsOutOfLogs segments event → NoneInLogs segments w → NoneInLogs segments (after w event)

abbrev pub NoneInLogsFirst : Type 0
NoneInLogsFirst = (segments : ℕ) (disk : Sectors) (logged of_files : ℕ → Bool) (home : ℕ → LockId) → NoneInLogs segments (first_world disk logged of_files home)
