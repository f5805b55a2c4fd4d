-- What recoveries ask of the logs, by what stands beside a world: the logs of the core alone, and that seals come behind the replay.
use Rattle.std.specs.Prelude.{◌≡◌, ℕ, Bool, true, IsTrue, Some}
use Rattle.sector_bytes.specs.SectorMaps.{value_at}
use Rattle.core_definitions.specs.Events.{Arrive, Event, Heard, PutFailed, Written}
use Rattle.core_definitions.specs.Flights as core
use Rattle.core_definitions.specs.LineGuards.{is_server}
use Rattle.core_definitions.specs.Runs.{State as RunMoment, Makes, next}
use Rattle.sector_world.specs.Kinds.{Good}
use Rattle.sector_world.specs.World.{World}
use Rattle.core_lives.specs.Cleared.{ClearedAreFree}
use Rattle.core_lives.specs.Room.{HasRoom}
use Rattle.core_lives.specs.Steps.{GoesOn}
use Rattle.core_world.specs.Beside.{NoneInLogs}
use Rattle.core_world.specs.Events.{LeadsQuietly}
use Rattle.core_world.specs.Journals.{Journal}
use Rattle.core_world.specs.Steps.{IsReached, IsWorldOf}
use Rattle.core_world.specs.Ties.{is_log_sector}
use Rattle.core_readings.specs.Logs.{AreLogs, AreSealedBehind}
use Rattle.core_recoveries.specs.Reads.{AreReplayed}
use Rattle.core_recoveries.specs.Steps.{AreLogsAsAsked, is_of_recoveries}

-- these give what is asked of the logs, where what is to be replayed is of regions that a replay changes
abbrev pub LogsGiveWhatIsAsked : Type 0
LogsGiveWhatIsAsked =
    (s : RunMoment) (w : World) (journal : ℕ → Journal) (event : Event) (heard : Heard) → IsReached s → IsWorldOf s w journal → Good w → Makes s event heard → AreLogs s journal →
    AreSealedBehind s w journal → ((d : ℕ) → AreReplayed s.core.setting.segments w d) → AreLogsAsAsked s w event heard

-- so each Recover, Load, Look and Finish goes on by these
abbrev pub RecoveriesGoOnByLogs : Type 0
RecoveriesGoOnByLogs =
    (s : RunMoment) (w : World) (journal : ℕ → Journal) (event : Event) (heard : Heard) → IsReached s → IsWorldOf s w journal → Good w → Makes s event heard → IsTrue (is_of_recoveries event) →
    AreLogs s journal → AreSealedBehind s w journal → ((d : ℕ) → AreReplayed s.core.setting.segments w d) → ClearedAreFree s.core.servers w → ((a : ℕ) → IsTrue (is_server a) → HasRoom s a) →
    GoesOn w (next s event heard) journal

-- a write of a seal that arrives leaves the journals as they are, and so does one that fails
abbrev pub SealsArriveByLogs : Type 0
SealsArriveByLogs =
    (s : RunMoment) (w : World) (journal : ℕ → Journal) (ticket : ℕ) (flight : core.Flight) → IsReached s → IsWorldOf s w journal → value_at s.core.flights ticket ≡ Some flight →
    flight.purpose ≡ core.OfRecovery → is_log_sector s.core.setting.segments flight.sector ≡ true → NoneInLogs s.core.setting.segments w → AreLogs s journal → Makes s (Arrive ticket) Written →
    LeadsQuietly w (next s (Arrive ticket) Written) journal

abbrev pub SealsFailByLogs : Type 0
SealsFailByLogs =
    (s : RunMoment) (w : World) (journal : ℕ → Journal) (ticket : ℕ) (flight : core.Flight) (new : Bool) → IsReached s → IsWorldOf s w journal → value_at s.core.flights ticket ≡ Some flight →
    flight.purpose ≡ core.OfRecovery → is_log_sector s.core.setting.segments flight.sector ≡ true → NoneInLogs s.core.setting.segments w → AreLogs s journal → Makes s (Arrive ticket) (PutFailed new) →
    LeadsQuietly w (next s (Arrive ticket) (PutFailed new)) journal
