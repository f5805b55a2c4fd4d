-- The recovery of a dead server's log: what it reads, what it looks at, and what it wants written.
use Rattle.std.specs.Prelude.{ℕ, ◌+◌, ◌-◌, Bool, true, false, not, ◌&&◌, ◌||◌, if◌then◌else◌, nat_lt, Option, Some, None, is_some, List, [], ◌∷◌, ◌++◌, filter, map}
use Rattle.std.specs.List.{filter_map, flat_map, list_all}
use Rattle.std.specs.Option.{option_map}
use Rattle.frang_base.specs.Functions.{member}
use Rattle.frang_base.specs.declared.change.Redo.{Redo}
use Rattle.disk_definitions.specs.Replay.{is_replayed}
use Rattle.disk_definitions.specs.ReplayedBlocks.{replayed_block}
use Rattle.disk_definitions.specs.Written.{ascending}
use Rattle.sector_bytes.specs.Blocks.{Block, version_of}
use Rattle.sector_bytes.specs.SectorMaps.{value_at}
use Rattle.disk_definitions.specs.Regions.{region_of}
use Rattle.core_definitions.specs.Settings.{LogRules}
use Rattle.core_definitions.specs.Logs.{SlotsRead, end_of, is_none, is_read, is_sealed_by, later_seals, log_sector, records_of, seal_block}

-- whose log it is, the slots that were read, the sectors that were looked at, each with the block that it wants written there if it wants one, and the sectors whose writes
-- for it are acknowledged
pub record Recovery : Type 0 where
  pub dead : ℕ
  pub slots : SlotsRead
  pub looked : List (ℕ × Option Block)
  pub written : List ℕ

abbrev pub recovery_of : ℕ → Recovery
recovery_of dead = record { dead = dead; slots = []; looked = []; written = [] }

-- the records of the log
abbrev pub redos : LogRules → Recovery → List Redo
redos logs recovery = records_of logs recovery.slots

-- the sectors that a record names and that the replay may change, ascending
abbrev pub named_sectors : ℕ → List Redo → List ℕ
named_sectors segments records =
    filter (λ sector. is_replayed (region_of segments sector)) (ascending (flat_map (λ redo. map (λ change. change.sector.0) redo.changes) records))

-- those to look at: once all slots are read, each that wasn't looked at yet
abbrev pub to_look : LogRules → ℕ → Recovery → List ℕ
to_look logs segments recovery =
    if is_read logs recovery.slots then filter (λ sector. not (is_some (value_at recovery.looked sector))) (named_sectors segments (redos logs recovery)) else []

-- where one applied, it is wanted
abbrev pub wanted_block : List Redo → ℕ → Block → Option Block
wanted_block records sector block =
    let after = replayed_block records sector block in if nat_lt (version_of block) (version_of after) then Some after else None

-- a write of this sector for the recovery is acknowledged
abbrev pub is_written : Recovery → ℕ → Bool
is_written recovery sector = member sector recovery.written

-- the writes of the replay that aren't acknowledged
abbrev pub replay_writes : Recovery → List (ℕ × Block)
replay_writes recovery = filter (λ write. not (is_written recovery write.0)) (filter_map (λ look. option_map (λ block. (look.0, block)) look.1) recovery.looked)

-- every slot is read, every look is made and every write of the replay is acknowledged
abbrev pub is_replay_done : LogRules → ℕ → Recovery → Bool
is_replay_done logs segments recovery = is_read logs recovery.slots && is_none (to_look logs segments recovery) && is_none (replay_writes recovery)

-- the number of the seal is acknowledged
abbrev pub is_sealed_at : LogRules → Recovery → ℕ → Bool
is_sealed_at logs recovery number = is_written recovery (log_sector logs recovery.dead number)

-- the numbers of the seal that are wanted: those from e + 2 on, all at once; once these are acknowledged, e + 1
abbrev pub seals_from : LogRules → Recovery → ℕ → List ℕ
seals_from logs recovery end =
    let later = later_seals logs end in
    filter (λ number. not (is_sealed_at logs recovery number)) (if list_all (is_sealed_at logs recovery) later then (end + 1) ∷ [] else later)

-- after the replay, where the log isn't sealed
abbrev pub seals_wanted : LogRules → ℕ → Recovery → List ℕ
seals_wanted logs segments recovery =
    if is_replay_done logs segments recovery && not (is_sealed_by logs recovery.slots) then seals_from logs recovery (end_of logs recovery.slots) else []

abbrev pub seal_writes : LogRules → ℕ → Recovery → List (ℕ × Block)
seal_writes logs segments recovery = map (λ number. (log_sector logs recovery.dead number, seal_block number)) (seals_wanted logs segments recovery)

-- all writes that it wants and that aren't acknowledged; they need no mark
abbrev pub recovery_writes : LogRules → ℕ → Recovery → List (ℕ × Block)
recovery_writes logs segments recovery = replay_writes recovery ++ seal_writes logs segments recovery

-- the log is sealed: it was, or the seal's last write, that of e + 1, is acknowledged
abbrev pub is_seal_done : LogRules → Recovery → Bool
is_seal_done logs recovery = is_sealed_by logs recovery.slots || is_sealed_at logs recovery (end_of logs recovery.slots + 1)

-- all wanted writes are acknowledged, the seal too
abbrev pub is_recovered : LogRules → ℕ → Recovery → Bool
is_recovered logs segments recovery = is_replay_done logs segments recovery && is_seal_done logs recovery
