-- What stands of each log beside its journal, as it is known of the core alone; and that a seal comes behind the replay.
use Rattle.std.specs.Prelude.{◌<◌, ◌≤◌, ◌^◌, ◌⊎◌, ◌≡◌, ℕ, true, false, IsTrue, Some, []}
use Rattle.std.specs.List.{Contains}
use Rattle.frang_base.specs.declared.limits.TheConstants.{LOGS, LOG_SECTORS, SERVERS}
use Rattle.disk_definitions.specs.Logs.{log_records}
use Rattle.disk_definitions.specs.Regions.{region_of, sector_of}
use Rattle.disk_definitions.specs.Replay.{is_replayed, slots_of, with_logs}
use Rattle.disk_definitions.specs.declared.param.Param.{Param}
use Rattle.disk_definitions.specs.declared.region.Region.TheVariants as region
use Rattle.lock_definitions.specs.Lease.{HasEnded, IsInTime}
use Rattle.ring_definitions.specs.Rings.{last}
use Rattle.sector_bytes.specs.Blocks.{Block, version_of}
use Rattle.sector_bytes.specs.Replays.{redo_all}
use Rattle.sector_bytes.specs.SectorMaps.{value_at}
use Rattle.sector_bytes.specs.Sectors.{Sectors}
use Rattle.core_definitions.specs.Cores.{writes}
use Rattle.core_definitions.specs.Events.{Finish, Got, Load, Nothing}
use Rattle.core_definitions.specs.Flights.{Flight, OfRecovery}
use Rattle.core_definitions.specs.LineGuards.{is_server}
use Rattle.core_definitions.specs.Logs.{is_read}
use Rattle.core_definitions.specs.Opening.{IsStart, Start, moment_of}
use Rattle.core_definitions.specs.Recoveries.{Recovery, redos}
use Rattle.core_definitions.specs.Runs.{State as RunMoment, Makes, Step, first_state, next}
use Rattle.core_definitions.specs.Servers.{is_dead, is_off}
use Rattle.core_definitions.specs.Settings.{Setting, disk_logs}
use Rattle.core_definitions.specs.WriteGuards.{CanIssue}
use Rattle.core_definitions.specs.Writes.{Write}
use Rattle.core_journals.specs.Journals as logs
use Rattle.core_journals.specs.Journals.{HaveSameBlocks, IsLog}
use Rattle.sector_world.specs.Claims.{replayed}
use Rattle.sector_world.specs.Guards.{NoneNames, to_replay}
use Rattle.sector_world.specs.Kinds.{Good}
use Rattle.sector_world.specs.Histories.{Named}
use Rattle.sector_world.specs.World.{World, has_version}
use Rattle.sector_world.specs.World as sectors
use Rattle.core_world.specs.Beside.{AreOpen}
use Rattle.core_world.specs.Journals.{IsAtRest, Journal, sector_log}
use Rattle.core_world.specs.Readings.{AllInPlace, ReadsAs}
use Rattle.core_world.specs.Steps.{IsReached, IsWorldOf}
use Rattle.core_world.specs.Ties.{is_log_sector, is_working}

-- the journal of a log without where operations end
abbrev pub log_journal : Journal → logs.Journal
log_journal j = record { before = j.before; log = j.log }

-- each log stands at the moment as its journal has it, and its numbers are small
pub record AreLogs (s : RunMoment) (journal : ℕ → Journal) : Type 0 where
  pub stand : (a : ℕ) → IsTrue (is_server a) → IsLog s a (log_journal (journal a))
  pub small : (a : ℕ) → IsTrue (is_server a) → is_off (s.core.servers a).phase ≡ false → last (s.core.servers a).ring < 2 ^ 62

-- the log of a dead server whose lease isn't over has nothing of a seal
abbrev pub LogsAreOpen : Type 0
LogsAreOpen = (s : RunMoment) (journal : ℕ → Journal) → AreLogs s journal → AreOpen s.core.servers s.core.now s.disk journal

-- ---- a seal comes behind the replay

-- all that a recovery of this log has to replay is in place
abbrev pub IsReplayed : World → ℕ → Type 0
IsReplayed w d = (s : ℕ) → AllInPlace (to_replay w d) s (version_of (w.disk s))

-- where something of a seal stands, or is in flight in time, it is
pub record IsSealedBehind (s : RunMoment) (w : World) (d : ℕ) (j : Journal) : Type 0 where
  pub stands : HaveSameBlocks (slots_of s.disk d) j.log.slots ⊎ IsReplayed w d
  pub flies :
      (one : ℕ × Flight) (slot : ℕ) → Contains s.core.flights one → one.1.purpose ≡ OfRecovery → slot < LOG_SECTORS → one.1.sector ≡ sector_of (region.Log d slot) →
      IsInTime one.1.stamp s.core.now → IsReplayed w d

-- so it is of each server that isn't off: of one that is mounted the log stands as its journal has it
abbrev pub AreSealedBehind : RunMoment → World → (ℕ → Journal) → Type 0
AreSealedBehind s w journal = (d : ℕ) → IsTrue (is_server d) → is_off (s.core.servers d).phase ≡ false → IsSealedBehind s w d (journal d)

-- ---- what a recovery reads

-- once the last slot is read, what was read replays as the records of the theorem on sectors do
abbrev pub LastLoadsReadAs : Type 0
LastLoadsReadAs =
    (s : RunMoment) (w : World) (journal : ℕ → Journal) (by slot : ℕ) (block : Block) → IsReached s → IsWorldOf s w journal → Good w → AreLogs s journal → AreSealedBehind s w journal →
    Makes s (Load by slot) (Got block) → (b : ℕ) (recovery : Recovery) → IsTrue (is_working (next s (Load by slot) (Got block)).core.servers b) →
    ((next s (Load by slot) (Got block)).core.servers b).recovery ≡ Some recovery → IsTrue (is_read disk_logs recovery.slots) → ReadsAs w recovery.dead (redos disk_logs recovery)

-- where a recovery ends, and all that it had to replay is in place, the log is at rest
abbrev pub FinishedLogsRest : Type 0
FinishedLogsRest =
    (s : RunMoment) (w : World) (journal : ℕ → Journal) (by : ℕ) (recovery : Recovery) → IsReached s → IsWorldOf s w journal → Good w → AreLogs s journal → Makes s (Finish by) Nothing →
    (s.core.servers by).recovery ≡ Some recovery → IsReplayed w recovery.dead → IsAtRest (slots_of s.disk recovery.dead) (sector_log w recovery.dead)

-- what a replay leaves as it is is in place
abbrev pub RestingIsReplayed : Type 0
RestingIsReplayed = (w : World) (d : ℕ) → ((s : ℕ) → redo_all (to_replay w d) s (w.disk s) ≡ w.disk s) → IsReplayed w d

-- what is issued of a seal comes behind the replay
abbrev pub SealsAreIssuedBehind : Type 0
SealsAreIssuedBehind =
    (s : RunMoment) (w : World) (journal : ℕ → Journal) (by sector : ℕ) (write : Write) → IsReached s → IsWorldOf s w journal → Good w → s.core.over ≡ false → CanIssue s.core by sector →
    value_at (writes s.core by) sector ≡ Some write → write.purpose ≡ OfRecovery → (d slot : ℕ) → IsTrue (is_server d) → slot < LOG_SECTORS → sector ≡ sector_of (region.Log d slot) → IsReplayed w d

-- what stands so behind a step: of who is dead the slots of the journal change with the disk alone, and where its lease is over not at all; what is in place of such a log stays in place. Of one that is
-- mounted nothing is asked: its log stands as its journal has it, also where a mount begins the journal anew behind a sealed log
pub record GoesBehind (s v : RunMoment) (w u : World) (journal then : ℕ → Journal) : Type 0 where
  pub slots : (a : ℕ) → IsTrue (is_server a) → v.disk ≡ s.disk → IsTrue (is_dead (v.core.servers a).phase) → HaveSameBlocks (then a).log.slots (journal a).log.slots
  pub still : (a : ℕ) → IsTrue (is_server a) → IsTrue (is_dead (s.core.servers a).phase) → HasEnded s.core.now (s.core.servers a).expiry → HaveSameBlocks (then a).log.slots (journal a).log.slots
  pub later : (a : ℕ) → IsTrue (is_server a) → IsTrue (is_dead (v.core.servers a).phase) → HasEnded v.core.now (v.core.servers a).expiry → IsReplayed w a → IsReplayed u a

-- so seals come behind the replay at each step
abbrev pub SealsStayBehind : Type 0
SealsStayBehind =
    (s v : RunMoment) (w u : World) (journal then : ℕ → Journal) → IsReached s → Step s v → IsWorldOf s w journal → Good w → s.core.over ≡ false → AreLogs s journal → AreLogs v then →
    GoesBehind s v w u journal then → AreSealedBehind s w journal → AreSealedBehind v u then

-- and at first no server is mounted
abbrev pub SealsBeginBehind : Type 0
SealsBeginBehind = (setting : Setting) (disk : Sectors) (w : World) (journal : ℕ → Journal) → AreSealedBehind (first_state setting disk) w journal

-- ---- the replay of all logs

-- the logs of no server have no records
abbrev pub OthersAreEmpty : Sectors → Type 0
OthersAreEmpty disk = (a : ℕ) → a < LOGS → is_server a ≡ false → log_records (slots_of disk a) ≡ []

-- each sector that is to be replayed is of a region that a replay changes
abbrev pub AreOfRegions : ℕ → World → Type 0
AreOfRegions segments w = (d s : ℕ) → NoneNames (to_replay w d) s ⊎ IsTrue (is_replayed (region_of segments s))

-- so the disk with all logs replayed, but for the logs, is that of the theorem on sectors
abbrev pub ReplaysAreTheWorlds : Type 0
ReplaysAreTheWorlds =
    (s : RunMoment) (w : World) (journal : ℕ → Journal) → IsReached s → IsWorldOf s w journal → Good w → w.servers ≡ SERVERS → AreLogs s journal → AreSealedBehind s w journal →
    OthersAreEmpty s.disk → (p : Param) → p.segments ≡ s.core.setting.segments → AreOfRegions p.segments w → (x : ℕ) → is_log_sector s.core.setting.segments x ≡ false → has_version w x ≡ true →
    with_logs (Some p) s.disk x ≡ replayed w w.servers x

-- ---- at first

-- behind an opening each log is at rest, and no server is mounted
abbrev pub LogsBeginBeside : Type 0
LogsBeginBeside = (start : Start) → IsStart start → (journal : ℕ → Journal) → AreLogs (moment_of start) journal

-- ---- what comes is named

-- each write of a sector with a version that may still come in time is named, with its version, by a record that stands in the log on whose behalf it is
abbrev pub WritesAreNamed : Type 0
WritesAreNamed =
    (s : RunMoment) (w : World) (journal : ℕ → Journal) → IsReached s → IsWorldOf s w journal → Good w → AreLogs s journal → AreSealedBehind s w journal → (x : ℕ) (f : sectors.Flight) →
    w.flight x ≡ Some f → w.now ≤ f.stamp → IsTrue (is_server f.behalf) → Named (log_records (slots_of s.disk f.behalf)) x (version_of f.block)
