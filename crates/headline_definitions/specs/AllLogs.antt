-- All logs of a disk, by how many there are and how the records of one are read: the greatest operation of each, what a record of one names, and the disk
-- once all of them are replayed.
use Rattle.std.specs.Prelude.{ℕ, Bool, ◌==◌, ◌&&◌, if◌then◌else◌, Option, Some, None, List, fold}
use Rattle.std.specs.List.{flat_map, list_any}
use Rattle.frang_base.specs.declared.change.Change.{Change}
use Rattle.frang_base.specs.declared.change.Redo.{Redo}
use Rattle.frang_base.specs.declared.limits.TheConstants.{LOGS, SECTOR_BYTES, SEGMENTS_MAX}
use Rattle.tree_definitions.specs.Numbers.{below}
use Rattle.sector_bytes.specs.Bytes.{zeros}
use Rattle.sector_bytes.specs.Sectors.{Sectors}
use Rattle.disk_definitions.specs.declared.param.Param.{Param}
use Rattle.disk_definitions.specs.Params.{param_in}
use Rattle.disk_definitions.specs.Logs.{Slots, greatest_operation, log_records}
use Rattle.disk_definitions.specs.Regions.{region_of}
use Rattle.disk_definitions.specs.Replay.{is_log, slots_of, with_change}

-- how many logs there are, and how the records of one are read off its slots
pub record AllLogs : Type 0 where
  pub count : ℕ
  pub records : Slots → List Redo

-- those of a disk
abbrev pub disk_logs : AllLogs
disk_logs = record { count = LOGS; records = log_records }

-- the records in the log of a server
abbrev pub records_of : AllLogs → Sectors → ℕ → List Redo
records_of logs disk server = logs.records (slots_of disk server)

-- the greatest operation of a log
abbrev pub greatest_at : AllLogs → Sectors → ℕ → ℕ
greatest_at logs disk server = greatest_operation (records_of logs disk server)

-- a change is of this sector, with this version
abbrev pub is_change_of : ℕ → ℕ → Change → Bool
is_change_of sector version change = change.sector.0 == sector && change.version == version

-- a record of the log names the sector with this version
abbrev pub names : AllLogs → Sectors → ℕ → ℕ → ℕ → Bool
names logs disk server sector version = list_any (λ redo. list_any (is_change_of sector version) redo.changes) (records_of logs disk server)

-- a record of some log names the sector
abbrev pub is_named : AllLogs → Sectors → ℕ → Bool
is_named logs disk sector =
    list_any (λ server. list_any (λ redo. list_any (λ change. change.sector.0 == sector) redo.changes) (records_of logs disk server)) (below logs.count)

-- ---- replayed

-- all changes of the logs, in their order
abbrev pub changes_in : AllLogs → Sectors → List Change
changes_in logs disk = flat_map (λ server. flat_map (λ redo. redo.changes) (records_of logs disk server)) (below logs.count)

-- the changes laid over the disk, none where its parameters aren't in their grammar
abbrev pub laid_over : AllLogs → Option Param → Sectors → Sectors
laid_over logs None disk = disk
laid_over logs (Some param) disk = fold (with_change param.segments) disk (changes_in logs disk)

-- the disk once all logs are replayed, which then are zero
abbrev pub replayed_by : AllLogs → Sectors → Sectors
replayed_by logs disk sector = if is_log (region_of SEGMENTS_MAX sector) then zeros SECTOR_BYTES else laid_over logs (param_in (disk 0)) disk sector
