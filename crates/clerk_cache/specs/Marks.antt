-- The dirty sectors of a cache with their marks.
use Rattle.std.specs.Prelude.{ℕ, Bool, true, not, ◌&&◌, if◌then◌else◌, List, Option, None}
use Rattle.std.specs.Option.{option_map}
use Rattle.std.specs.List.{filter_map}
use Rattle.frang_base.specs.Functions.{member}
use Rattle.frang_base.specs.declared.lock.LockId.{LockId}
use Rattle.cache_definitions.specs.Caches.{Cache, CachedSector, is_dirty_bytes, is_under}
use Rattle.cache_definitions.specs.Flags.{FlaggedCache}
use Rattle.flush_order.specs.declared.Mark.{Mark}

-- a sector's mark, where it is dirty
abbrev pub mark_of : ℕ × CachedSector → Option Mark
mark_of entry = option_map (λ dirt. record { sector = record { 0 = entry.0 }; mark = dirt.mark }) entry.1.dirt

-- the dirty sectors with their marks
abbrev pub marks_of : Cache → List Mark
marks_of cache = filter_map mark_of cache

-- the mark of a dirty sector that passes and isn't among those with a write in flight
abbrev pub idle_mark_of : (ℕ × CachedSector → Bool) → List ℕ → ℕ × CachedSector → Option Mark
idle_mark_of passes flying entry = if not (member entry.0 flying) && passes entry then mark_of entry else None

-- the dirty sectors that pass and of which no write is in flight, with their marks
abbrev pub idle_marks_of : (ℕ × CachedSector → Bool) → FlaggedCache → List Mark
idle_marks_of passes cache = filter_map (idle_mark_of passes cache.flying) cache.entries

-- every sector
abbrev pub is_one : ℕ × CachedSector → Bool
is_one entry = true

-- one of dirty file bytes
abbrev pub is_one_of_bytes : ℕ × CachedSector → Bool
is_one_of_bytes entry = is_dirty_bytes entry.1

-- among those that stay wanted
abbrev pub is_one_staying : List ℕ → ℕ × CachedSector → Bool
is_one_staying staying entry = member entry.0 staying

-- under the lock
abbrev pub is_one_under : LockId → ℕ × CachedSector → Bool
is_one_under lock entry = is_under lock entry.1
