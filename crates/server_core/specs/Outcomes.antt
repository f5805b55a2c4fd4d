-- The outcome of a line as the code has it: which of the core it is, and what a server needs to commit it.
use Rattle.std.specs.Prelude.{◌≡◌, ◌-◌, ◌<◌, ◌≤◌, ℕ, Bool, true, false, Option, Some, None, IsTrue, List, [], length, map}
use Rattle.std.specs.List.{list_all}
use Rattle.std.specs.Option.{option_map, unwrap_or}
use Rattle.frang_base.specs.declared.change.Change.{Change}
use Rattle.frang_base.specs.declared.change.Redo.{Redo}
use Rattle.frang_base.specs.declared.limits.TheConstants.{LOG_NUMBERS_END}
use Rattle.frang_base.specs.declared.lock.LockId.{LockId}
use Rattle.frang_base.specs.declared.sector.Sector.{Sector}
use Rattle.sector_bytes.specs.Changes.{is_change, is_older}
use Rattle.sector_bytes.specs.Replays.{change_at}
use Rattle.sector_bytes.specs.SectorMaps.{value_at}
use Rattle.cache_definitions.specs.Caches.{Cache, CachedSector, block_at}
use Rattle.cache_laws.specs.Steps.{are_apart, cover_after, with_its_change}
use Rattle.clerk_cache.specs.Dropping.{numbers_of}
use Rattle.ring_definitions.specs.Rings.{Ring, free, is_record, last, need}
use Rattle.cache_definitions.specs.Flags.{but_all}
use Rattle.core_definitions.specs.LineEffects.{cache_after}
use Rattle.core_definitions.specs.Plans as core
use Rattle.core_definitions.specs.Servers.{Server, is_in_mount}
use Rattle.server_core.specs.declared.outcome.BytesSet.{BytesSet}
use Rattle.server_core.specs.declared.outcome.Outcome.{Outcome}
use Rattle.server_core.specs.States.{Room, State}

-- ---- which of the core it is

abbrev pub bytes_of : BytesSet → core.BytesSet
bytes_of set = record { sector = set.sector.0; block = set.block; cover = set.cover }

abbrev pub moves_of : List (Sector × LockId) → List (ℕ × LockId)
moves_of moves = map (λ move. (move.0.0, move.1)) moves

-- the same record, file bytes and freed sectors; and each sector of the cache comes under the same lock, or stays
pub record IsOutcome (cache : Cache) (outcome : Outcome) (of_core : core.Outcome) : Type 0 where
  pub redo : of_core.redo ≡ outcome.redo
  pub bytes : of_core.bytes ≡ map bytes_of outcome.bytes.items
  pub freed : of_core.freed ≡ numbers_of outcome.freed
  pub moved : (sector : ℕ) (cached : CachedSector) → value_at cache sector ≡ Some cached
      → cover_after (moves_of outcome.moves.items) sector cached.cover ≡ unwrap_or (of_core.moves sector) cached.cover

-- ---- what a server needs to commit it

-- the sector of a change is cached, and older than the change
abbrev pub is_older_at : Cache → Change → Bool
is_older_at cache change = unwrap_or (option_map (λ block. is_older block change) (block_at cache change.sector.0)) false

abbrev pub are_older : Cache → List Change → Bool
are_older cache changes = list_all (is_older_at cache) changes

-- changes that may be laid: they are well formed, their sectors are apart, cached and older
pub record MayLay (cache : Cache) (changes : List Change) : Type 0 where
  pub formed : list_all is_change changes ≡ true
  pub apart : are_apart changes ≡ true
  pub older : are_older cache changes ≡ true

abbrev pub changes_of : Option Redo → List Change
changes_of None = []
changes_of (Some redo) = redo.changes

-- what moves and changes make of a cached sector
abbrev pub changed_sector : ℕ → List Change → List (ℕ × LockId) → ℕ → CachedSector → CachedSector
changed_sector mark changes moves sector cached = with_its_change mark (change_at changes sector) (record cached { cover = cover_after moves sector cached.cover })

-- the record may stand in a log, its numbers are in range, the log takes it and has memory for it, and its changes may be laid over what is cached
pub record MayAppend (server : State) (redo : Redo) : Type 0 where
  pub fits : IsTrue (is_record redo)
  pub numbers : last server.server.ring < LOG_NUMBERS_END - 16
  pub free : need server.server.ring redo ≤ free server.server.ring
  pub sectors : need server.server.ring redo ≤ server.sectors
  pub names : length redo.changes ≤ server.names
  pub older : are_older server.server.cache redo.changes ≡ true

abbrev pub MayAppendSome : State → Option Redo → Type 0
MayAppendSome server None = Unit {0}
MayAppendSome server (Some redo) = MayAppend server redo

-- it is mounted, its log takes the record, and its cache the file bytes
pub record MayCommit (server : State) (outcome : Outcome) : Type 0 where
  pub mounted : is_in_mount server.server.phase ≡ true
  pub redo : MayAppendSome server outcome.redo
  pub bytes : length outcome.bytes.items ≤ server.spare

-- ---- what it takes

abbrev pub needed_for : Ring → Option Redo → ℕ
needed_for ring None = 0
needed_for ring (Some redo) = need ring redo

abbrev pub names_for : Option Redo → ℕ
names_for None = 0
names_for (Some redo) = length redo.changes

abbrev pub room_for : State → Outcome → Room
room_for server outcome = record { spare = length outcome.bytes.items; sectors = needed_for server.server.ring outcome.redo; names = names_for outcome.redo; zeros = 0 }

-- ---- what it makes of a server whose log has the record

abbrev pub changed_by_commit : core.Outcome → List ℕ → Server → Server
changed_by_commit outcome freed server = record server { cache = cache_after (last server.ring) outcome server.cache; staying = but_all freed server.staying; under = None }
