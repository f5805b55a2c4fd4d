-- The writes that a server or the host wants: of its log, in place, and of its recovery.
use Rattle.std.specs.Prelude.{ℕ, ◌==◌, Bool, true, false, not, ◌&&◌, ◌||◌, if◌then◌else◌, nat_le, Option, Some, None, is_some, List, [], ◌∷◌, ◌++◌, map, fold}
use Rattle.std.specs.List.{filter_map}
use Rattle.std.specs.Option.{option_map}
use Rattle.frang_base.specs.Functions.{member}
use Rattle.frang_base.specs.declared.lock.LockId.{LockId}
use Rattle.tree_definitions.specs.Touched.{is_sync, is_unmount}
use Rattle.lock_definitions.specs.Locks.{Locks}
use Rattle.lock_definitions.specs.Holders.{has_pressed, is_pressed}
use Rattle.ring_definitions.specs.Rings.{Ring, last, sent}
use Rattle.sector_bytes.specs.Blocks.{Block}
use Rattle.sector_bytes.specs.SectorMaps.{with_value}
use Rattle.core_definitions.specs.Settings.{LogRules, Setting}
use Rattle.core_definitions.specs.Logs.{is_none, log_sector}
use Rattle.core_definitions.specs.Rings.{has_room, is_in_window, is_oldest_named, next_write}
use Rattle.cache_definitions.specs.declared.dirt.Dirt.{Dirt}
use Rattle.cache_definitions.specs.Caches.{Cache, CachedSector, is_dirty_bytes, mark_at, still_has}
use Rattle.core_definitions.specs.Lines.{Stage, Finishing}
use Rattle.core_definitions.specs.Flights.{Purpose, OfLog, InPlace, OfRecovery}
use Rattle.core_definitions.specs.Recoveries.{Recovery, recovery_writes}
use Rattle.core_definitions.specs.Servers.{Server, asks}

-- on whose behalf, the block, what it is of, and its mark where it has one
pub record Write : Type 0 where
  pub behalf : ℕ
  pub block : Block
  pub purpose : Purpose
  pub mark : Option ℕ

-- by sector, ascending
abbrev pub Writes : Type 0
Writes = List (ℕ × Write)

-- ---- why a sector in place, or the log, is wanted

-- the plan is `Done`, and the ring has no room for its record
abbrev pub lacks_room : LogRules → Ring → Option Stage → Bool
lacks_room logs ring (Some (Finishing outcome)) = not (has_room logs ring outcome.redo)
lacks_room logs ring _ = false

-- a dirty sector is wanted where it stays wanted; its zeros are pending; an unmount is under way; a sync is, and it is one of file bytes; its lock is held sole and asked; or the
-- ring has no room and its oldest records name the sector
abbrev pub is_place_wanted : LogRules → Locks → ℕ → Server → Option Stage → ℕ → CachedSector → Bool
is_place_wanted logs locks number server stage sector cached =
    member sector server.staying || member sector server.pending || asks is_unmount server || (asks is_sync server && is_dirty_bytes cached)
    || is_pressed locks number cached.cover || (lacks_room logs server.ring stage && is_oldest_named logs server.ring sector)

-- with each of these causes the log is wanted up to its last number
abbrev pub is_log_wanted : LogRules → Locks → ℕ → Server → Option Stage → Bool
is_log_wanted logs locks number server stage =
    not (is_none server.pending) || asks is_unmount server || asks is_sync server || has_pressed locks number || lacks_room logs server.ring stage

-- the log is wanted up to this number
abbrev pub log_wanted_to : LogRules → Locks → ℕ → Server → Option Stage → ℕ
log_wanted_to logs locks number server stage = if is_log_wanted logs locks number server stage then last server.ring else server.staying_log

-- ---- the writes

-- a dirty sector that is wanted
abbrev pub place_write : ℕ → Bool → CachedSector → Option Dirt → Option Write
place_write number wanted cached None = None
place_write number wanted cached (Some dirt) =
    if wanted then Some (record { behalf = number; block = cached.block; purpose = InPlace cached.cover; mark = Some dirt.mark }) else None

abbrev pub place_writes : LogRules → Locks → ℕ → Server → Option Stage → Writes
place_writes logs locks number server stage =
    filter_map (λ entry. option_map (λ write. (entry.0, write)) (place_write number (is_place_wanted logs locks number server stage entry.0 entry.1) entry.1 entry.1.dirt)) server.cache

-- of the log the first number not issued, where the log is wanted up to it or further
abbrev pub log_write : LogRules → ℕ → ℕ → Option (ℕ × Block) → Writes
log_write logs number upto None = []
log_write logs number upto (Some (next, block)) =
    if nat_le next upto then (log_sector logs number next, record { behalf = number; block = block; purpose = OfLog next; mark = None }) ∷ [] else []

-- those of its recovery are on behalf of the dead server, and need no mark
abbrev pub rescue_writes : LogRules → ℕ → Option Recovery → Writes
rescue_writes logs segments None = []
rescue_writes logs segments (Some recovery) =
    map (λ write. (write.0, record { behalf = recovery.dead; block = write.1; purpose = OfRecovery; mark = None })) (recovery_writes logs segments recovery)

-- all that it wants written
abbrev pub wanted_writes : Setting → Locks → ℕ → Server → Option Stage → Writes
wanted_writes setting locks number server stage =
    fold (λ writes entry. with_value writes entry.0 entry.1) []
    (rescue_writes setting.logs setting.segments server.recovery ++ place_writes setting.logs locks number server stage
    ++ log_write setting.logs number (log_wanted_to setting.logs locks number server stage) (next_write server.ring))

-- ---- what a write waits for

-- its mark is reached
abbrev pub is_mark_reached : Ring → Option ℕ → Bool
is_mark_reached ring None = true
is_mark_reached ring (Some mark) = nat_le mark ring.reached

-- a sector in place is clean once a write of it has arrived: the cache still has this block of it, and its mark is reached
abbrev pub comes_clean : Server → ℕ → Block → Bool
comes_clean server sector block = still_has server.cache sector block && is_mark_reached server.ring (mark_at server.cache sector)

-- of its log no number is in flight that is further past the acknowledged ones than the log's limit
abbrev pub keeps_window : LogRules → Ring → Purpose → Bool
keeps_window logs ring (OfLog number) = is_in_window logs ring number
keeps_window logs ring (InPlace cover) = true
keeps_window logs ring OfRecovery = true
