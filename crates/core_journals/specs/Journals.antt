-- What stands of a server's log on the disk beside a moment of a run, by the life of its server: behind a mount a good log of its ring; of a dead server that log, as
-- far as writes of it that were in flight have come, and then perhaps some of its seal, or all; of a server that is off a sealed log.
use Rattle.std.specs.Prelude.{◌≡◌, ◌≤◌, ◌<◌, ◌+◌, ◌-◌, ◌%◌, ◌⊎◌, ◌&&◌, ◌||◌, ◌==◌, ℕ, Bool, true, false, IsTrue, Some, List, map}
use Rattle.std.specs.List.{Contains, list_all}
use Rattle.frang_base.specs.declared.limits.TheConstants.{LOG_IN_FLIGHT_MAX, LOG_SECTORS}
use Rattle.disk_definitions.specs.Arriving.{with_sector, with_sectors}
use Rattle.disk_definitions.specs.LogSectors.{empty_sector, log_sector_bytes}
use Rattle.disk_definitions.specs.Logs.{Slots, is_sealed, log_end}
use Rattle.disk_definitions.specs.Regions.{sector_of}
use Rattle.disk_definitions.specs.Replay.{slots_of}
use Rattle.disk_definitions.specs.declared.log_sector.LogSector.{LogSector}
use Rattle.disk_definitions.specs.declared.region.Region.TheVariants as region
use Rattle.sector_bytes.specs.Blocks.{Block}
use Rattle.sector_bytes.specs.Sectors.{Sectors}
use Rattle.lock_definitions.specs.Lease.{HasEnded, IsInTime}
use Rattle.ring_definitions.specs.RingRuns.{LogEvent, LogState, after_log_events, log_at, may_all_happen}
use Rattle.ring_definitions.specs.RingSteps.{IsGoodLog}
use Rattle.ring_definitions.specs.Rings.{Ring}
use Rattle.ring_definitions.specs.Sealing.{is_behind_gap}
use Rattle.core_definitions.specs.Flights.{Flight, Flights, OfLog, OfRecovery}
use Rattle.core_definitions.specs.LineGuards.{is_server}
use Rattle.core_definitions.specs.Logs.{end_of, is_read, is_sealed_by, log_sector, seal_block}
use Rattle.core_definitions.specs.Recoveries.{Recovery, is_sealed_at}
use Rattle.core_definitions.specs.Runs.{State}
use Rattle.core_definitions.specs.Scripts.{host_party}
use Rattle.core_definitions.specs.Servers.{Server, is_dead, is_in_mount, is_off, is_up}
use Rattle.core_definitions.specs.Settings.{disk_logs}

-- ---- a log since its server's mount

-- its slots as the server mounted; and its ring, its slots, the sectors on their way and the records since
pub record Journal : Type 0 where
  pub before : Slots
  pub log : LogState

-- behind a mount that read these slots
abbrev pub journal_at : Slots → Journal
journal_at slots = record { before = slots; log = log_at slots }

-- the same blocks in the slots of two logs
abbrev pub HaveSameBlocks : Slots → Slots → Type 0
HaveSameBlocks a b = (slot : ℕ) → slot < LOG_SECTORS → a slot ≡ b slot

-- what is written is a sector that is on its way, of this number
pub record IsSent (flying : List LogSector) (number : ℕ) (block : Block) : Type 0 where
  pub sector : LogSector
  pub there : Contains flying sector
  pub number_is : sector.seq ≡ number
  pub block_is : block ≡ log_sector_bytes sector

-- it is good, its ring is the server's, and each write of it that may still come in time is on its way
pub record IsJournal (ring : Ring) (now : ℕ) (flights : Flights) (a : ℕ) (j : Journal) : Type 0 where
  pub good : IsGoodLog j.before j.log
  pub ring_is : j.log.ring ≡ ring
  pub low : LOG_SECTORS - 1 ≤ log_end j.log.slots
  pub sent :
      (one : ℕ × Flight) (number : ℕ) → Contains flights one → one.1.server ≡ a → one.1.purpose ≡ OfLog number → IsInTime one.1.stamp now →
      IsSent j.log.flying number one.1.block

-- ---- the log of a server that is off

-- it has an end, and is sealed: a mount may go on behind it
pub record IsAtRest (slots : Slots) : Type 0 where
  pub low : LOG_SECTORS - 1 ≤ log_end slots
  pub sealed : IsTrue (is_sealed slots)

-- ---- the log of a dead server

-- behind this end all numbers of a seal stand but the first
abbrev pub AllStandBehind : ℕ → Slots → Type 0
AllStandBehind end slots = (number : ℕ) → is_behind_gap end number ≡ true → slots (number % LOG_SECTORS) ≡ seal_block number

-- it stands as its server and the writes that were in flight left it; or, once the lease is over, some numbers of its seal stand behind it; or all
pub data IsSealing (now expiry : ℕ) (base slots : Slots) : Type 0 where
  Open : HaveSameBlocks slots base → IsSealing now expiry base slots
  Partly : HasEnded now expiry → (numbers : List ℕ) → IsTrue (list_all (is_behind_gap (log_end base)) numbers) →
      HaveSameBlocks slots (with_sectors base (map empty_sector numbers)) →
      IsSealing now expiry base slots
  Wholly : HasEnded now expiry → (numbers : List ℕ) → IsTrue (list_all (is_behind_gap (log_end base)) numbers) →
      AllStandBehind (log_end base) (with_sectors base (map empty_sector numbers)) →
      HaveSameBlocks slots (with_sector (with_sectors base (map empty_sector numbers)) (empty_sector (log_end base + 1))) → IsSealing now expiry base slots

-- a write of its seal: of a number but the first, or of that one once all others stand
pub record IsSealWrite (now expiry end : ℕ) (slots : Slots) (a : ℕ) (flight : Flight) : Type 0 where
  pub over : HasEnded now expiry
  pub number : ℕ
  pub sector_is : flight.sector ≡ log_sector disk_logs a number
  pub block_is : flight.block ≡ seal_block number
  pub which : IsTrue (is_behind_gap end number) ⊎ ((number ≡ end + 1) × AllStandBehind end slots)

-- a recovery at work that has read it has read a sealed log, which is so still; or one with this end, and each number of its seal that is acknowledged stands, and with
-- the first of them the log is sealed
pub record IsReading (end : ℕ) (slots : Slots) (recovery : Recovery) : Type 0 where
  pub sealed : is_sealed_by disk_logs recovery.slots ≡ true → IsTrue (is_sealed slots)
  pub ends : is_sealed_by disk_logs recovery.slots ≡ false → end_of disk_logs recovery.slots ≡ end
  pub stand :
      is_sealed_by disk_logs recovery.slots ≡ false → (number : ℕ) → end < number → number ≤ end + LOG_IN_FLIGHT_MAX → is_sealed_at disk_logs recovery number ≡ true →
      slots (number % LOG_SECTORS) ≡ seal_block number
  pub closed : is_sealed_by disk_logs recovery.slots ≡ false → is_sealed_at disk_logs recovery (end + 1) ≡ true → IsTrue (is_sealed slots)

-- a server that is Up, or the host
abbrev pub is_working : (ℕ → Server) → ℕ → Bool
is_working servers a = (is_server a && is_up (servers a).phase) || a == host_party

pub record IsLeft (expiry : ℕ) (servers : ℕ → Server) (now : ℕ) (flights : Flights) (disk : Sectors) (a : ℕ) (base : Slots) : Type 0 where
  pub stands : IsSealing now expiry base (slots_of disk a)
  pub seals :
      (one : ℕ × Flight) (slot : ℕ) → Contains flights one → one.1.purpose ≡ OfRecovery → slot < LOG_SECTORS → one.1.sector ≡ sector_of (region.Log a slot) →
      IsInTime one.1.stamp now →
      IsSealWrite now expiry (log_end base) (slots_of disk a) a one.1
  pub reads :
      (by : ℕ) (recovery : Recovery) → IsTrue (is_working servers by) → (servers by).recovery ≡ Some recovery → recovery.dead ≡ a → is_read disk_logs recovery.slots ≡ true →
      IsReading (log_end base) (slots_of disk a) recovery

-- ---- by the life of its server

pub record IsLogOf (server : Server) (servers : ℕ → Server) (now : ℕ) (flights : Flights) (disk : Sectors) (a : ℕ) (j : Journal) : Type 0 where
  pub rest : IsTrue (is_off server.phase) → IsAtRest (slots_of disk a)
  pub journal : is_off server.phase ≡ false → IsJournal server.ring now flights a j
  pub live : IsTrue (is_in_mount server.phase) → HaveSameBlocks (slots_of disk a) j.log.slots
  pub left : IsTrue (is_dead server.phase) → IsLeft server.expiry servers now flights disk a j.log.slots

-- at a moment of a run
abbrev pub IsLog : State → ℕ → Journal → Type 0
IsLog s a j = IsLogOf (s.core.servers a) s.core.servers s.core.now s.core.flights s.disk a j

-- ---- how it goes on

-- from a moment on: by what happens to a ring and its log; or anew, where its server was off and mounts behind what stands there
pub data GoesOn (s : State) (a : ℕ) (j : Journal) : Journal → Type 0 where
  Happens : (events : List LogEvent) → IsTrue (may_all_happen j.log events) → GoesOn s a j (record j { log = after_log_events j.log events })
  Mounts : IsTrue (is_off (s.core.servers a).phase) → GoesOn s a j (journal_at (slots_of s.disk a))
