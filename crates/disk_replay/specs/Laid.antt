-- The words of a replay as its steps speak of them: changes laid over a disk, and the disk without its logs.
use Rattle.std.specs.Prelude.{◌≡◌, ◌<◌, ℕ, zero, suc, ◌/◌, ◌%◌, Bool, true, Option, Some, None, List, [], ◌∷◌, slice_index_or, fold, if◌then◌else◌}
use Rattle.std.specs.List.{All, flat_map}
use Rattle.frang_base.specs.Functions.{put}
use Rattle.frang_base.specs.declared.limits.TheConstants.{LOG_SECTORS, SECTOR_BYTES, SEGMENTS_MAX}
use Rattle.frang_base.specs.declared.change.Change.{Change}
use Rattle.frang_base.specs.declared.sector.OpNo.{OpNo}
use Rattle.sector_bytes.specs.Bytes.{zeros}
use Rattle.disk_definitions.specs.declared.param.Param.{Param}
use Rattle.disk_definitions.specs.declared.region.Region.TheVariants as region
use Rattle.disk_definitions.specs.Regions.{region_of, sector_of}
use Rattle.sector_bytes.specs.Changes.{is_change}
use Rattle.sector_bytes.specs.Sectors.{Sectors}
use Rattle.tree_definitions.specs.Numbers.{below}
use Rattle.frang_base.specs.declared.change.Redo.{Redo}
use Rattle.disk_definitions.specs.Logs.{greatest_operation, log_records}
use Rattle.disk_definitions.specs.Replay.{slots_of, is_log, is_replayed, with_change}

-- the sector is one of a log
unfoldable pub is_logged : ℕ → Bool
is_logged sector = is_log (region_of SEGMENTS_MAX sector)

-- the sector is one that a replay changes, on a disk of so many segments
unfoldable pub is_changed : ℕ → ℕ → Bool
is_changed segments sector = is_replayed (region_of segments sector)

-- the changes of a record may stand in one
abbrev pub HoldsChanges : Redo → Type 0
HoldsChanges r = All (λ c. is_change c ≡ true) r.changes

-- the changes of records, in order
abbrev pub changes_in : List Redo → List Change
changes_in records = flat_map (λ r. r.changes) records

-- the changes of the logs of the first servers, in order
unfoldable pub changes_below : Sectors → ℕ → List Change
changes_below sectors servers = flat_map (λ server. changes_in (log_records (slots_of sectors server))) (below servers)

-- the disk with these changes laid over it, in order
unfoldable pub with_changes : ℕ → Sectors → List Change → Sectors
with_changes segments sectors changes = fold (with_change segments) sectors changes

-- the disk with all its logs zero
unfoldable pub without_logs : Sectors → Sectors
without_logs sectors sector = if is_logged sector then zeros SECTOR_BYTES else sectors sector

-- the disk with changes laid over it, none where its parameters aren't in their grammar
abbrev pub laid_by : Option Param → Sectors → List Change → Sectors
laid_by None sectors changes = sectors
laid_by (Some p) sectors changes = with_changes p.segments sectors changes

-- the sector of a slot, where the slots of all logs are counted through
abbrev pub slot_sector : ℕ → ℕ
slot_sector n = sector_of (region.Log (n / LOG_SECTORS) (n % LOG_SECTORS))

-- the disk with the first n slots of its logs zero
unfoldable pub erased : ℕ → Sectors → Sectors
erased zero sectors = sectors
erased (suc n) sectors = put (erased n sectors) (slot_sector n) (zeros SECTOR_BYTES)

-- the records of a disk's log
unfoldable pub records_at : Sectors → ℕ → List Redo
records_at sectors server = log_records (slots_of sectors server)

-- the greatest operation among records, none where there is no record
abbrev pub greatest_kept : List Redo → Option OpNo
greatest_kept [] = None
greatest_kept (r ∷ rs) = Some (record { 0 = greatest_operation (r ∷ rs) })

-- that of a disk's log
unfoldable pub greatest_at : Sectors → ℕ → Option OpNo
greatest_at sectors server = greatest_kept (records_at sectors server)

-- those of the first n logs, in order
abbrev pub AreGreatest : ℕ → Sectors → List (Option OpNo) → Type 0
AreGreatest n sectors kept = (server : ℕ) (d : Option OpNo) → server < n → slice_index_or kept server d ≡ greatest_at sectors server
