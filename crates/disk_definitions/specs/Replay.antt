-- The disk after all logs are replayed: the logs in order, their records in order, each change where its sector is older; then the logs are zero.
use Rattle.std.specs.Prelude.{ℕ, Bool, true, false, ◌&&◌, ◌==◌, if◌then◌else◌, Option, Some, None, List, fold}
use Rattle.std.specs.List.{flat_map}
use Rattle.frang_base.specs.declared.limits.TheConstants.{LOGS, SECTOR_BYTES, SEGMENTS_MAX}
use Rattle.frang_base.specs.declared.change.Change.{Change}
use Rattle.disk_definitions.specs.declared.region.Region.{Region}
use Rattle.disk_definitions.specs.declared.region.Region.TheVariants as region
use Rattle.disk_definitions.specs.declared.param.Param.{Param}
use Rattle.sector_bytes.specs.Bytes.{zeros}
use Rattle.disk_definitions.specs.Params.{param_in}
use Rattle.disk_definitions.specs.Regions.{region_of, sector_of}
use Rattle.sector_bytes.specs.Changes.{applied}
use Rattle.sector_bytes.specs.Sectors.{Sectors}
use Rattle.tree_definitions.specs.Numbers.{below}
use Rattle.disk_definitions.specs.Logs.{Slots, log_records, greatest_operation}

-- the slots of a server's log
abbrev pub slots_of : Sectors → ℕ → Slots
slots_of sectors server slot = sectors (sector_of (region.Log server slot))

-- the greatest operation of a server's log
abbrev pub greatest_of : Sectors → ℕ → ℕ
greatest_of sectors server = greatest_operation (log_records (slots_of sectors server))

-- a replay changes inodes, bitmap segments and sectors of small blocks
abbrev pub is_replayed : Option Region → Bool
is_replayed (Some (region.Segment k)) = true
is_replayed (Some (region.Inode i)) = true
is_replayed (Some (region.Small k part)) = true
is_replayed _ = false

-- a change laid over a disk of so many segments
abbrev pub with_change : ℕ → Sectors → Change → Sectors
with_change segments sectors c sector = if sector == c.sector.0 && is_replayed (region_of segments sector) then applied (sectors sector) c else sectors sector

-- all changes of the logs, in their order
abbrev pub logged_changes : Sectors → List Change
logged_changes sectors = flat_map (λ server. flat_map (λ r. r.changes) (log_records (slots_of sectors server))) (below LOGS)

-- the changes laid over the disk, none where its parameters aren't in their grammar
abbrev pub with_logs : Option Param → Sectors → Sectors
with_logs None sectors = sectors
with_logs (Some p) sectors = fold (with_change p.segments) sectors (logged_changes sectors)

-- the sector is one of a log
abbrev pub is_log : Option Region → Bool
is_log (Some (region.Log server slot)) = true
is_log _ = false

-- the replayed disk: the changes are made, and then all logs are zero
abbrev pub replayed : Sectors → Sectors
replayed sectors sector = if is_log (region_of SEGMENTS_MAX sector) then zeros SECTOR_BYTES else with_logs (param_in (sectors 0)) sectors sector
