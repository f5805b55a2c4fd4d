-- What a server has cached of sectors, what is asked of it, and what is made of it.
use Rattle.std.specs.Prelude.{ℕ, Bool, false, not, ◌&&◌, if◌then◌else◌, Option, Some, None, is_some, List, map, filter, find, fold}
use Rattle.std.specs.List.{list_any}
use Rattle.std.specs.Map.{keys_of}
use Rattle.std.specs.Option.{option_and_then, option_map, unwrap_or}
use Rattle.std.specs.Str.{bytes_eq}
use Rattle.frang_base.specs.declared.change.Change.{Change}
use Rattle.frang_base.specs.declared.lock.LockId.{LockId}
use Rattle.lock_definitions.specs.Order.{is_lock}
use Rattle.sector_bytes.specs.Blocks.{Block}
use Rattle.sector_bytes.specs.Changes.{changed}
use Rattle.sector_bytes.specs.SectorMaps.{adjusted, value_at, without}
use Rattle.cache_definitions.specs.declared.dirt.Dirt.{Dirt}

-- of a cached sector: its block, the lock that covers it, and its dirt where it is dirty
pub record CachedSector : Type 0 where
  pub block : Block
  pub cover : LockId
  pub dirt : Option Dirt

-- by sector, ascending
abbrev pub Cache : Type 0
Cache = List (ℕ × CachedSector)

-- ---- one cached sector

-- as the disk has it
abbrev pub clean : Block → LockId → CachedSector
clean block cover = record { block = block; cover = cover; dirt = None }

-- as the disk doesn't have it yet, with its mark; and whether it is one of file bytes
abbrev pub dirty : Block → LockId → ℕ → Bool → CachedSector
dirty block cover mark is_bytes = record { block = block; cover = cover; dirt = Some (record { mark = mark; is_bytes = is_bytes }) }

-- not dirty any more
abbrev pub without_dirt : CachedSector → CachedSector
without_dirt cached = record cached { dirt = None }

abbrev pub is_dirty : CachedSector → Bool
is_dirty cached = is_some cached.dirt

-- dirty, and one of file bytes
abbrev pub is_dirty_bytes : CachedSector → Bool
is_dirty_bytes cached = unwrap_or (option_map (λ dirt. dirt.is_bytes) cached.dirt) false

-- its lock is this one
abbrev pub is_under : LockId → CachedSector → Bool
is_under lock cached = is_lock lock cached.cover

-- dirty, and its lock is this one
abbrev pub is_dirty_under : LockId → CachedSector → Bool
is_dirty_under lock cached = is_under lock cached && is_dirty cached

-- ---- a cache asked

-- the block of a sector, where it is cached
abbrev pub block_at : Cache → ℕ → Option Block
block_at cache sector = option_map (λ cached. cached.block) (value_at cache sector)

-- the lock that covers a sector, where it is cached
abbrev pub cover_at : Cache → ℕ → Option LockId
cover_at cache sector = option_map (λ cached. cached.cover) (value_at cache sector)

-- the mark of a sector, where it is dirty
abbrev pub mark_at : Cache → ℕ → Option ℕ
mark_at cache sector = option_and_then (λ cached. option_map (λ dirt. dirt.mark) cached.dirt) (value_at cache sector)

-- this sector is dirty
abbrev pub is_dirty_at : Cache → ℕ → Bool
is_dirty_at cache sector = unwrap_or (option_map is_dirty (value_at cache sector)) false

-- this sector is dirty, and one of file bytes
abbrev pub is_dirty_bytes_at : Cache → ℕ → Bool
is_dirty_bytes_at cache sector = unwrap_or (option_map is_dirty_bytes (value_at cache sector)) false

-- the cache still has this block of the sector, byte for byte
abbrev pub still_has : Cache → ℕ → Block → Bool
still_has cache sector block = unwrap_or (option_map (λ cached. bytes_eq cached.block block) (value_at cache sector)) false

-- some cached sector passes
abbrev pub any_cached : (CachedSector → Bool) → Cache → Bool
any_cached passes cache = list_any (λ entry. passes entry.1) cache

-- the first cached sector that passes
abbrev pub first_cached : (CachedSector → Bool) → Cache → Option ℕ
first_cached passes cache = option_map (λ entry. entry.0) (find (λ entry. passes entry.1) cache)

-- the dirty sectors, ascending
abbrev pub dirty_sectors : Cache → List ℕ
dirty_sectors cache = keys_of (filter (λ entry. is_dirty entry.1) cache)

-- the blocks of all sectors
abbrev pub blocks_of : Cache → List (ℕ × Block)
blocks_of cache = map (λ entry. (entry.0, entry.1.block)) cache

-- ---- what is made of a cache

-- each cached sector changed, by its number
abbrev pub each_cached : (ℕ → CachedSector → CachedSector) → Cache → Cache
each_cached change cache = map (λ entry. (entry.0, change entry.0 entry.1)) cache

-- a change laid over its sector, which is then dirty metadata with this mark and under this lock
abbrev pub with_change : Cache → Change → ℕ → LockId → Cache
with_change cache change mark cover = adjusted (λ cached. dirty (changed cached.block change) cover mark false) cache change.sector.0

-- the sector under another lock
abbrev pub with_cover : Cache → ℕ → LockId → Cache
with_cover cache sector cover = adjusted (λ cached. record cached { cover = cover }) cache sector

-- the sector isn't dirty any more
abbrev pub cleaned : Cache → ℕ → Cache
cleaned cache sector = adjusted without_dirt cache sector

-- the sector was written as this block: it isn't dirty any more where the cache still has that block of it
abbrev pub with_written : Cache → ℕ → Block → Cache
with_written cache sector block = if still_has cache sector block then cleaned cache sector else cache

-- the sectors are forgotten
abbrev pub forgotten : Cache → List ℕ → Cache
forgotten cache sectors = fold without cache sectors

-- the sectors under a lock are dropped
abbrev pub dropped : Cache → LockId → Cache
dropped cache lock = filter (λ entry. not (is_under lock entry.1)) cache
