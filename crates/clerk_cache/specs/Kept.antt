-- How a cache keeps its contents: the blocks and the rest in two maps of the same sectors.
use Rattle.std.specs.Prelude.{◌≡◌, ℕ, min, Bool, true, false, not, ◌&&◌, if◌then◌else◌, is_some, List, [], ◌∷◌, filter, find, map, Option, Some, None, ◌+◌}
use Rattle.std.specs.List.{filter_map}
use Rattle.std.specs.Map.{keys_of}
use Rattle.std.specs.Option.{option_map, unwrap_or}
use Rattle.frang_base.specs.declared.lock.LockId.{LockId}
use Rattle.lock_definitions.specs.Order.{is_lock}
use Rattle.sector_bytes.specs.Blocks.{Block}
use Rattle.sector_bytes.specs.SectorMaps.{Ascend, Spacious}
use Rattle.cache_definitions.specs.declared.dirt.Dirt.{Dirt}
use Rattle.cache_definitions.specs.Caches.{Cache, CachedSector}
use Rattle.cache_definitions.specs.Flags.{FlaggedCache}
use Rattle.flush_order.specs.declared.Mark.{Mark}
use Rattle.clerk_cache.specs.declared.state.SectorState.{SectorState}

-- what is cached of a sector
abbrev pub cached_of : Block → SectorState → CachedSector
cached_of block state = record { block = block; cover = state.cover; dirt = state.dirt }

-- the contents of two maps of the same sectors
abbrev pub joined : List (ℕ × Block) → List (ℕ × SectorState) → Cache
joined [] states = []
joined (block ∷ blocks) [] = []
joined (block ∷ blocks) (state ∷ states) = (block.0, cached_of block.1 state.1) ∷ joined blocks states

-- the sectors whose state passes
abbrev pub flagged : (SectorState → Bool) → List (ℕ × SectorState) → List ℕ
flagged test states = keys_of (filter (λ entry. test entry.1) states)

-- the sector of a state is dirty and stays wanted
abbrev pub is_state_staying : SectorState → Bool
is_state_staying state = is_some state.dirt && state.stays

-- a write of the sector of a state is in flight
abbrev pub is_state_flying : SectorState → Bool
is_state_flying state = state.flies

-- a cache of these
abbrev pub cache_of : Spacious Block → Spacious SectorState → FlaggedCache
cache_of sectors states = record {
  entries = joined sectors.entries states.entries;
  staying = flagged is_state_staying states.entries;
  flying = flagged is_state_flying states.entries;
  spare = min sectors.spare states.spare;
}

-- the sector of a state is dirty
abbrev pub is_state_dirty : SectorState → Bool
is_state_dirty state = is_some state.dirt

-- the sector of a state is under the lock
abbrev pub is_state_under : LockId → SectorState → Bool
is_state_under lock state = is_lock lock state.cover

-- the sector of a state is under the lock and dirty
abbrev pub is_state_dirty_under : LockId → SectorState → Bool
is_state_dirty_under lock state = is_state_under lock state && is_state_dirty state

-- the first sector whose state passes
abbrev pub first_state : (SectorState → Bool) → List (ℕ × SectorState) → Option ℕ
first_state passes states = option_map (λ entry. entry.0) (find (λ entry. passes entry.1) states)

-- the sector of a state is one of dirty file bytes
abbrev pub is_state_bytes : SectorState → Bool
is_state_bytes state = unwrap_or (option_map (λ dirt. dirt.is_bytes) state.dirt) false

-- where the sector of a state is dirty, it doesn't stay wanted
abbrev pub is_state_fresh : SectorState → Bool
is_state_fresh state = not state.stays

-- no write of the sector of a state is in flight
abbrev pub is_idle : SectorState → Bool
is_idle state = not state.flies

-- the same, and it is one of dirty file bytes
abbrev pub is_idle_bytes : SectorState → Bool
is_idle_bytes state = is_idle state && is_state_bytes state

-- the same, and it stays wanted
abbrev pub is_idle_staying : SectorState → Bool
is_idle_staying state = is_idle state && is_state_staying state

-- the same, and it is under the lock
abbrev pub is_idle_under : LockId → SectorState → Bool
is_idle_under lock state = is_idle state && is_state_under lock state

-- how many states pass
abbrev pub count_of : (SectorState → Bool) → List (ℕ × SectorState) → ℕ
count_of test [] = 0
count_of test (entry ∷ states) = (if test entry.1 then 1 else 0) + count_of test states

-- one where there is a state that passes, else none
abbrev pub one_if : (SectorState → Bool) → Option SectorState → ℕ
one_if test None = 0
one_if test (Some state) = if test state then 1 else 0

-- ---- what is made of a state

-- with this cover and dirt, in place of what was kept of the sector: a flag stays, but that a clean sector doesn't stay wanted
abbrev pub state_set : LockId → Option Dirt → Option SectorState → SectorState
state_set cover dirt old = record {
  cover = cover;
  dirt = dirt;
  stays = is_some dirt && unwrap_or (option_map is_state_staying old) false;
  flies = unwrap_or (option_map is_state_flying old) false;
}

-- not dirty
abbrev pub clean_state : SectorState → SectorState
clean_state state = record state { dirt = None; stays = false }

-- dirty under a lock
abbrev pub changed_state : LockId → Dirt → SectorState → SectorState
changed_state cover dirt state = record { cover = cover; dirt = Some dirt; stays = is_state_staying state; flies = state.flies }

-- under another lock
abbrev pub moved_state : LockId → SectorState → SectorState
moved_state cover state = record state { cover = cover }

-- it stays wanted, where it is dirty
abbrev pub wanted_state : SectorState → SectorState
wanted_state state = record state { stays = true }

-- the same, where it is dirty; else as it was
abbrev pub wanted_where_dirty : SectorState → SectorState
wanted_where_dirty state = if is_state_dirty state then wanted_state state else state

-- each that is dirty stays wanted
abbrev pub all_wanted : List (ℕ × SectorState) → List (ℕ × SectorState)
all_wanted states = map (λ entry. (entry.0, wanted_where_dirty entry.1)) states

-- whether a write of it is in flight
abbrev pub flown_state : Bool → SectorState → SectorState
flown_state flies state = record state { flies = flies }

-- ---- marks

-- a sector's mark, where it is dirty
abbrev pub state_mark : ℕ × SectorState → Option Mark
state_mark entry = option_map (λ dirt. record { sector = record { 0 = entry.0 }; mark = dirt.mark }) entry.1.dirt

-- the dirty sectors with their marks
abbrev pub state_marks : List (ℕ × SectorState) → List Mark
state_marks states = filter_map state_mark states

-- a sector's mark, where it is dirty and its state passes
abbrev pub mark_key : (SectorState → Bool) → ℕ × SectorState → Option Mark
mark_key test entry = if test entry.1 then state_mark entry else None

-- the dirty sectors whose states pass, with their marks
abbrev pub passing_marks : (SectorState → Bool) → List (ℕ × SectorState) → List Mark
passing_marks test states = filter_map (mark_key test) states

-- ---- the two maps

-- the two lists are of the same sectors
abbrev pub AreAlike : List (ℕ × Block) → List (ℕ × SectorState) → Type 0
AreAlike [] [] = Unit {0}
AreAlike [] (state ∷ states) = ⊥
AreAlike (block ∷ blocks) [] = ⊥
AreAlike (block ∷ blocks) (state ∷ states) = (block.0 ≡ state.0) × AreAlike blocks states

-- the two maps are of the same sectors, ascending
pub record AreKept (blocks : List (ℕ × Block)) (states : List (ℕ × SectorState)) : Type 0 where
  pub alike : AreAlike blocks states
  pub ordered : Ascend blocks
