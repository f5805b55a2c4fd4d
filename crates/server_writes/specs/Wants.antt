-- Whether a sector in place is wanted, and which of those that are may be written next.
use Rattle.std.specs.Prelude.{◌≡◌, ℕ, ◌+◌, Bool, true, false, not, ◌&&◌, ◌||◌, if◌then◌else◌, nat_le, Option, Some, None, List, [], ◌∷◌, drop, unwrap_or}
use Rattle.std.specs.List.{list_any}
use Rattle.std.specs.Option.{option_map, option_or}
use Rattle.frang_base.specs.Functions.{member}
use Rattle.frang_base.specs.declared.sector.Sector.{Sector}
use Rattle.tree_definitions.specs.Touched.{is_sync, is_unmount}
use Rattle.lock_definitions.specs.Holders.{is_pressed, is_sole}
use Rattle.lock_definitions.specs.Locks.{Locks}
use Rattle.lock_definitions.specs.declared.claim.AskedFor.{AskedFor}
use Rattle.frang_base.specs.declared.lock.LockId.{LockId}
use Rattle.sector_bytes.specs.SectorMaps.{value_at}
use Rattle.cache_definitions.specs.declared.dirt.Dirt.{Dirt}
use Rattle.cache_definitions.specs.Caches.{Cache, CachedSector, is_dirty_bytes}
use Rattle.cache_definitions.specs.Flags.{FlaggedCache}
use Rattle.clerk_cache.specs.Marks.{idle_marks_of, is_one_under}
use Rattle.flush_order.specs.Marks.{next_reached}
use Rattle.log_slots.specs.Reading.{log_rules}
use Rattle.core_definitions.specs.Lines.{Stage}
use Rattle.core_definitions.specs.Rings.{is_oldest_named}
use Rattle.core_definitions.specs.Servers.{Server, asks}
use Rattle.core_definitions.specs.Writes.{is_place_wanted, lacks_room}

-- the sector is cached, and wanted while it is dirty
abbrev pub is_wanted_at : Locks → ℕ → Server → Option Stage → ℕ → Bool
is_wanted_at locks number server stage sector =
    unwrap_or (option_map (is_place_wanted log_rules locks number server stage sector) (value_at server.cache sector)) false

-- ---- one of those that pass

-- the sector is cached, and passes
abbrev pub passes_at : (ℕ × CachedSector → Bool) → Cache → ℕ → Bool
passes_at passes cache sector = unwrap_or (option_map (λ cached. passes (sector, cached)) (value_at cache sector)) false

-- one that passes; none where none does
abbrev pub IsOneOf : (ℕ × CachedSector → Bool) → Cache → Option Sector → Type 0
IsOneOf passes cache None = list_any passes cache ≡ false
IsOneOf passes cache (Some sector) = passes_at passes cache sector.0 ≡ true

-- of the one cached at a place: it passes; where none is told, from behind it on one passes exactly where one does from it on
abbrev pub IsAtPlace : (ℕ × CachedSector → Bool) → Cache → ℕ → Option Sector → Type 0
IsAtPlace passes cache i None = list_any passes (drop (i + 1) cache) ≡ list_any passes (drop i cache)
IsAtPlace passes cache i (Some sector) = passes_at passes cache sector.0 ≡ true

-- ---- one that may be written

abbrev pub is_dirt_reached : ℕ → Option Dirt → Bool
is_dirt_reached reached None = false
is_dirt_reached reached (Some dirt) = nat_le dirt.mark reached

-- no write of it is in flight, and it is dirty with a mark that is reached
abbrev pub is_ready : List ℕ → ℕ → ℕ × CachedSector → Bool
is_ready flying reached entry = not (member entry.0 flying) && is_dirt_reached reached entry.1.dirt

-- it passes besides
abbrev pub ready_and : FlaggedCache → ℕ → (ℕ × CachedSector → Bool) → ℕ × CachedSector → Bool
ready_and cache reached passes entry = is_ready cache.flying reached entry && passes entry

-- it stays wanted
abbrev pub stays_wanted : Server → ℕ × CachedSector → Bool
stays_wanted server entry = member entry.0 server.staying

-- its zeros are pending
abbrev pub is_one_pending : Server → ℕ × CachedSector → Bool
is_one_pending server entry = member entry.0 server.pending

-- its lock is held sole and asked
abbrev pub is_one_pressed : Locks → ℕ → ℕ × CachedSector → Bool
is_one_pressed locks number entry = is_pressed locks number entry.1.cover

-- it is one of these
abbrev pub is_one_of_these : List ℕ → ℕ × CachedSector → Bool
is_one_of_these sectors entry = member entry.0 sectors

-- an unmount is under way; or a sync is, and it is one of file bytes
abbrev pub line_wants : Server → ℕ × CachedSector → Bool
line_wants server entry = asks is_unmount server || (asks is_sync server && is_dirty_bytes entry.1)

-- it is wanted besides
abbrev pub is_due : Locks → ℕ → Server → Option Stage → List ℕ → ℕ × CachedSector → Bool
is_due locks number server stage flying entry =
    is_ready flying server.ring.reached entry && is_place_wanted log_rules locks number server stage entry.0 entry.1

-- these are the sectors that have to be clean before the ring has room for the record of a line at this stage: none where it has
abbrev pub IsRoomFor : Server → Option Stage → List ℕ → Type 0
IsRoomFor server stage sectors = (s : ℕ) → member s sectors ≡ (lacks_room log_rules server.ring stage && is_oldest_named log_rules server.ring s)

-- ---- lists gone through

-- the first answer that there is
abbrev pub first_of : {X Y : Type 0} → (X → Option Y) → List X → Option Y
first_of f [] = None
first_of f (x ∷ xs) = option_or (f x) (first_of f xs)

-- the sector, where it is ready
abbrev pub ready_sector : FlaggedCache → ℕ → ℕ → Option Sector
ready_sector cache reached sector = if passes_at (is_ready cache.flying reached) cache.entries sector then Some (record { 0 = sector }) else None

-- the next one under a lock that is asked, where it is held sole
abbrev pub next_if_sole : Locks → ℕ → FlaggedCache → ℕ → LockId × AskedFor → Option Sector
next_if_sole locks number cache reached one = if is_sole locks number one.0 then next_reached (idle_marks_of (is_one_under one.0) cache) reached else None
