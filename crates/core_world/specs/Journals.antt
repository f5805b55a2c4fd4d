-- How far a log has come, as the theorem on sectors counts it: by numbers of operations, where the core counts the sectors of the log. Of each log a journal is
-- kept beside the core: what the log was as its server mounted, what it is since, and where in it each operation ends.
use Rattle.std.specs.Prelude.{◌≡◌, ◌≤◌, ◌<◌, ◌+◌, ◌%◌, ◌↔◌, ◌⊎◌, ℕ, Bool, not, nat_le, Some, List, [], ◌∷◌, ◌++◌, map, filter, reverse, IsTrue}
use Rattle.std.specs.List.{Contains}
use Rattle.frang_base.specs.Functions.{put}
use Rattle.frang_base.specs.declared.change.Redo.{Redo}
use Rattle.frang_base.specs.declared.limits.TheConstants.{LOG_IN_FLIGHT_MAX, LOG_SECTORS, SECTOR_BYTES}
use Rattle.sector_bytes.specs.Blocks.{Block, version_of}
use Rattle.sector_bytes.specs.Bytes.{zeros}
use Rattle.sector_bytes.specs.Sectors.{Sectors}
use Rattle.disk_definitions.specs.declared.log_sector.LogSector.{LogSector}
use Rattle.disk_definitions.specs.LogSectors.{log_sector_bytes}
use Rattle.disk_definitions.specs.Logs.{Slots, is_sealed, log_end, log_records}
use Rattle.disk_definitions.specs.Replay.{slots_of}
use Rattle.ring_definitions.specs.RingRuns.{LogEvent, LogState, Placed, after_log_event, log_at}
use Rattle.ring_definitions.specs.RingSteps.{IsGoodLog}
use Rattle.ring_definitions.specs.Rings.{Ring, last}
use Rattle.core_definitions.specs.Flights as core
use Rattle.core_definitions.specs.LineGuards.{is_server}
use Rattle.core_definitions.specs.Logs.{is_read, seal_block}
use Rattle.core_definitions.specs.Recoveries.{Recovery, redos}
use Rattle.core_definitions.specs.Servers as life
use Rattle.core_definitions.specs.Servers.{Server}
use Rattle.core_definitions.specs.Settings.{disk_logs}
use Rattle.sector_world.specs.Histories.{Item, settled, Each}
use Rattle.sector_world.specs.Histories.Item.{Done, Doubt}
use Rattle.sector_world.specs.World.{World}
use Rattle.core_world.specs.Readings.{AllInPlace, ReadsAs, AreNamed, changing}
use Rattle.core_world.specs.Ties.{is_working}

-- ---- a log on the side of the theorem on sectors

-- up to which number operations are durable, acknowledged and given up; the last one; the records, the newest first; the settled history; the versions on the disk
pub record SectorLog : Type 0 where
  pub durable : ℕ
  pub acked : ℕ
  pub floor : ℕ
  pub last : ℕ
  pub records : List Redo
  pub history : List Item
  pub versions : ℕ → ℕ

-- that of a server; an event that leaves these leaves it by computation
abbrev pub sector_log : World → ℕ → SectorLog
sector_log w a = record {
  durable = w.durable a;
  acked = w.acked a;
  floor = w.floor a;
  last = w.last a;
  records = w.log a;
  history = settled w.history;
  versions = λ s. version_of (w.disk s);
}

-- ---- numbers of operations and numbers of sectors

-- a server's operations up to the first number are those that are whole in the log up to the second
abbrev pub IsUpTo : (ℕ → ℕ) → ℕ → ℕ → ℕ → List Item → Type 0
IsUpTo ends limit a k h = Each (λ c. c.by ≡ a → (c.op ≤ k) ↔ (ends c.op ≤ limit)) h

-- an operation of the server with this number is among them
abbrev pub IsOwn : ℕ → ℕ → List Item → Type 0
IsOwn a n [] = ⊥
IsOwn a n (Done c ∷ h) = ((c.by ≡ a) × (c.op ≡ n)) ⊎ IsOwn a n h
IsOwn a n (Doubt m ∷ h) = IsOwn a n h

-- `ends` tells of an operation the number of the log with the last byte of its record, or, where it has none, of the record before it. `end` is the end of the
-- log on the disk
abbrev pub IsCounted : SectorLog → ℕ → Ring → ℕ → (ℕ → ℕ) → Type 0
IsCounted log a ring end ends = record {
  rises : (n m : ℕ) → n ≤ m → ends n ≤ ends m;
  durable : IsUpTo ends end a log.durable log.history;
  acked : IsUpTo ends ring.reached a log.acked log.history;
  newest : (log.last ≤ log.acked) ⊎ IsOwn a log.last log.history;
  ends_at : ends log.last ≡ last ring;
}

-- ---- a log since its server's mount

-- the slots as the server mounted, the ring, slots and records since, and where each operation ends
pub record Journal : Type 0 where
  pub before : Slots
  pub log : LogState
  pub ends : ℕ → ℕ

-- behind a mount that read these slots nothing is in the ring, and each operation ends where the log ends
abbrev pub journal_at : Slots → Journal
journal_at slots = record { before = slots; log = log_at slots; ends = λ n. log_end slots }

-- behind what happens to a ring and its log, where operations end as before
abbrev pub with_event : Journal → LogEvent → Journal
with_event j event = record j { log = after_log_event j.log event }

-- the journals where this happens to that of a server
abbrev pub with_event_of : (ℕ → Journal) → ℕ → LogEvent → ℕ → Journal
with_event_of journal a event = put journal a (with_event (journal a) event)

-- the block seals this slot, behind the end of these slots
abbrev pub IsSeal : Slots → ℕ → Block → Type 0
IsSeal slots slot block = (n : ℕ) × (log_end slots < n) × (n ≤ log_end slots + LOG_IN_FLIGHT_MAX) × (n % LOG_SECTORS ≡ slot) × (block ≡ seal_block n)

-- what stands in a slot on the disk; a dead server's log is sealed in the end
abbrev pub IsSlotOn : life.Phase → Slots → ℕ → Block → Type 0
IsSlotOn life.Dead slots slot block = (block ≡ slots slot) ⊎ IsSeal slots slot block
IsSlotOn phase slots slot block = block ≡ slots slot

-- a write of a log is on its way with this number
abbrev pub IsSent : List LogSector → ℕ → Block → Type 0
IsSent flying number block = (x : LogSector) × Contains flying x × (x.seq ≡ number) × (block ≡ log_sector_bytes x)

-- the records that aren't given up by the theorem on sectors
abbrev pub is_above : ℕ → Placed → Bool
is_above floor p = not (nat_le p.redo.op.0 floor)

-- their records
abbrev pub records_above : ℕ → List Placed → List Redo
records_above floor placed = map (λ p. p.redo) (filter (is_above floor) placed)

-- the others
abbrev pub records_up_to : ℕ → List Placed → List Redo
records_up_to floor placed = map (λ p. p.redo) (filter (λ p. nat_le p.redo.op.0 floor) placed)

-- the records of its log are those of the theorem on sectors: those that are given up, and the others but for the empty ones; the operation of each ends at its last number; and those of
-- earlier mounts and those that are given up are in place
abbrev pub AreRecords : Journal → SectorLog → Type 0
AreRecords j log = record {
  ends_at_last : (p : Placed) → Contains j.log.placed p → j.ends p.redo.op.0 ≡ p.last;
  given_up : (p : Placed) → Contains j.log.placed p → (p.redo.op.0 ≤ log.floor) ↔ (p.first ≤ j.log.ring.given_up);
  placed : records_above log.floor j.log.placed ≡ reverse (changing log.records);
  old : (s : ℕ) → AllInPlace (log_records j.before ++ records_up_to log.floor j.log.placed) s (log.versions s);
}

-- each write of its log that may still come in time is on its way
abbrev pub AreSent : Journal → ℕ → core.Flights → ℕ → Type 0
AreSent j now flights a =
    (one : ℕ × core.Flight) (number : ℕ) → Contains flights one → one.1.server ≡ a → one.1.purpose ≡ core.OfLog number → now ≤ one.1.stamp → IsSent j.log.flying number one.1.block

-- the journal of a server that is mounted, or dead
abbrev pub IsJournal : life.Phase → Ring → ℕ → core.Flights → Sectors → SectorLog → ℕ → Journal → Type 0
IsJournal phase ring now flights disk log a j = record {
  good : IsGoodLog j.before j.log;
  ring_is : j.log.ring ≡ ring;
  slots : (slot : ℕ) → slot < LOG_SECTORS → IsSlotOn phase j.log.slots slot (slots_of disk a slot);
  counted : IsCounted log a ring (log_end j.log.slots) j.ends;
  sent : AreSent j now flights a;
  records : AreRecords j log;
}

-- the log of a server that is off: a mount may go on behind it, and its records are in place
abbrev pub IsAtRest : Slots → SectorLog → Type 0
IsAtRest slots log = record {
  low : LOG_SECTORS ≤ log_end slots + 1;
  sealed : IsTrue (is_sealed slots);
  old : (s : ℕ) → AllInPlace (log_records slots) s (log.versions s);
}

-- ---- of all servers

-- the logs of the servers are zero; of what lies at the place of another number's log nothing is said
abbrev pub AreZero : Sectors → Type 0
AreZero disk = (a slot : ℕ) → IsTrue (is_server a) → slot < LOG_SECTORS → slots_of disk a slot ≡ zeros SECTOR_BYTES

-- that of a server, by its phase
abbrev pub IsLogOf : life.Phase → Ring → ℕ → core.Flights → Sectors → SectorLog → ℕ → Journal → Type 0
IsLogOf life.Off ring now flights disk log a j = IsAtRest (slots_of disk a) log
IsLogOf phase ring now flights disk log a j = IsJournal phase ring now flights disk log a j

-- the log of each server, by its phase
abbrev pub AreJournals : (ℕ → Server) → ℕ → core.Flights → Sectors → World → (ℕ → Journal) → Type 0
AreJournals servers now flights disk w journal = (a : ℕ) → IsTrue (is_server a) → IsLogOf (servers a).phase (servers a).ring now flights disk (sector_log w a) a (journal a)

-- what a recovery at work has read of a log, once it has read all, is what the theorem on sectors replays
abbrev pub AreReadings : ℕ → (ℕ → Server) → World → Type 0
AreReadings segments servers w =
    (by : ℕ) (recovery : Recovery) → IsTrue (is_working servers by) → (servers by).recovery ≡ Some recovery → IsTrue (is_read disk_logs recovery.slots) →
    ReadsAs w recovery.dead (redos disk_logs recovery) × AreNamed segments w recovery.dead (redos disk_logs recovery)
