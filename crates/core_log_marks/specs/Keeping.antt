-- By what a log reads as, a recovery keeps since its server's last mount what it keeps by the world's durable number.
use Rattle.std.specs.Prelude.{◌≡◌, ◌≢◌, ℕ, IsTrue, Some, List, drop}
use Rattle.frang_base.specs.declared.change.Redo.{Redo}
use Rattle.frang_base.specs.declared.limits.TheConstants.{LOG_IN_FLIGHT_MAX, SERVERS}
use Rattle.disk_definitions.specs.Logs.{Slots, log_end, log_records, records_among, sectors_read}
use Rattle.disk_definitions.specs.Replay.{greatest_of}
use Rattle.lock_definitions.specs.Lease.{HasEnded}
use Rattle.sector_bytes.specs.Sectors.{Sectors}
use Rattle.tree_definitions.specs.Tree.{FileTree}
use Rattle.core_definitions.specs.Events.{Finish, Nothing}
use Rattle.core_definitions.specs.LineGuards.{is_server}
use Rattle.core_definitions.specs.Logs.{is_read}
use Rattle.core_definitions.specs.Recoveries.{Recovery, redos}
use Rattle.core_definitions.specs.Runs.{State as RunMoment, Makes, Step, first_state}
use Rattle.core_definitions.specs.Servers.{is_dead}
use Rattle.core_definitions.specs.Settings.{Setting, disk_logs}
use Rattle.sector_world.specs.Kinds.{Good}
use Rattle.sector_world.specs.World.{World}
use Rattle.sector_world.specs.World.Phase.{Off}
use Rattle.core_world.specs.Journals.{Journal}
use Rattle.core_world.specs.Steps.{IsReached, IsWorldOf}
use Rattle.core_world.specs.Ties.{is_working}
use Rattle.core_commits.specs.Standing.{IsOfLines}
use Rattle.core_readings.specs.Logs.{AreLogs}
use Rattle.core_histories.specs.Tellings.{IsTold}
use Rattle.core_histories.specs.Told.{KeepsWhatItReports}
use Rattle.stop_laws.specs.Happened.{settle}
use Rattle.stop_laws.specs.Paired.{IsKeptBy}
use Rattle.core_log_marks.specs.Accounts.{AllAreAccountedFor}

-- ---- what recoveries have read

-- all that the log reads as; or what a seal leaves of it, which are its last records
pub data IsReportOf (base : Slots) (records : List Redo) : Type 0 where
  Whole : records ≡ log_records base → IsReportOf base records
  Sealed : records ≡ records_among (drop LOG_IN_FLIGHT_MAX (sectors_read base (log_end base))) → (missing : ℕ) → records ≡ drop missing (log_records base) → IsReportOf base records

-- of each recovery at work that has read its log, by the journal of the dead server
abbrev pub AreReported : RunMoment → (ℕ → Journal) → Type 0
AreReported s journal =
    (by : ℕ) (recovery : Recovery) → IsTrue (is_working s.core.servers by) → (s.core.servers by).recovery ≡ Some recovery → IsTrue (is_read disk_logs recovery.slots) →
    IsReportOf (journal recovery.dead).log.slots (redos disk_logs recovery)

-- at first nobody recovers
abbrev pub ReportsBegin : Type 0
ReportsBegin = (setting : Setting) (disk : Sectors) (journal : ℕ → Journal) → AreReported (first_state setting disk) journal

-- and so it is kept by each step, where the journal of a dead server whose lease is over stays what it is
abbrev pub ReportsStay : Type 0
ReportsStay =
    (s v : RunMoment) (journal then : ℕ → Journal) → IsReached s → Step s v → AreLogs s journal →
    ((a : ℕ) → IsTrue (is_server a) → IsTrue (is_dead (s.core.servers a).phase) → HasEnded s.core.now (s.core.servers a).expiry → then a ≡ journal a) → AreReported s journal → AreReported v then

-- ---- what they keep

-- a moment with its world, whose history is of lines, its logs, and journals that account for the operations
pub record IsAccounted (s : RunMoment) (w : World) (journal : ℕ → Journal) (when : ℕ → ℕ) (first_tree : FileTree) (numbers : List ℕ) : Type 0 where
  pub world : IsWorldOf s w journal
  pub good : Good w
  pub lines : IsOfLines s.core.setting.segments when first_tree numbers w
  pub logs : AreLogs s journal
  pub accounts : AllAreAccountedFor s.core.servers s.disk w journal
  pub reports : AreReported s journal

-- at a stop: of each server that isn't off by the greatest number of its log on the disk
abbrev pub LogsKeepWhatIsDurable : Type 0
LogsKeepWhatIsDurable =
    (s : RunMoment) (w : World) (journal : ℕ → Journal) (when : ℕ → ℕ) (first_tree : FileTree) (numbers : List ℕ) → IsAccounted s w journal when first_tree numbers → w.servers ≡ SERVERS →
    (told : IsTold when first_tree numbers s w) → (server : ℕ) → w.phase server ≢ Off →
    IsKeptBy server (greatest_of s.disk server) (w.durable server) (settle first_tree told.happened)

-- at the end of a recovery: by the number that it reports
abbrev pub RecoveriesKeepWhatTheyReport : Type 0
RecoveriesKeepWhatTheyReport =
    (s : RunMoment) (w : World) (journal : ℕ → Journal) (when : ℕ → ℕ) (first_tree : FileTree) (numbers : List ℕ) → IsReached s → IsAccounted s w journal when first_tree numbers →
    (told : IsTold when first_tree numbers s w) → (by : ℕ) (recovery : Recovery) → Makes s (Finish by) Nothing → (s.core.servers by).recovery ≡ Some recovery →
    KeepsWhatItReports s w first_tree told.happened recovery
