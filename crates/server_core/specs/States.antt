-- What contracts see of a line under way and of a server: those of the core, and for how much more there is room.
use Rattle.std.specs.Prelude.{◌≡◌, ◌≤◌, ◌+◌, ℕ, Option, Some, None, List, []}
use Rattle.std.specs.Option.{option_map}
use Rattle.sector_bytes.specs.Blocks.{Block}
use Rattle.sector_bytes.specs.SectorMaps.{Spacious}
use Rattle.cache_definitions.specs.Flags.{FlaggedCache}
use Rattle.ring_definitions.specs.Rings.{Ring, ring_at}
use Rattle.wal_ring.specs.SpaciousRings.{SpaciousRing}
use Rattle.core_definitions.specs.Lines.{Under}
use Rattle.core_definitions.specs.Logs.{SlotsRead}
use Rattle.core_definitions.specs.Servers.{Server}

-- ---- a line under way

-- `spare`: for so many more slots of a log there is room
pub record UnderState : Type 0 where
  pub under : Under
  pub spare : ℕ

-- a line that isn't a mount reads no slots
abbrev pub slots_in : Option (Spacious Block) → SlotsRead
slots_in None = []
slots_in (Some slots) = slots.entries

abbrev pub spare_in : Option (Spacious Block) → ℕ
spare_in None = 0
spare_in (Some slots) = slots.spare

-- ---- a server

-- which one it is; the server of the core but for its recovery, which is kept beside it; for so many more sectors its cache has room, for so many more sectors its log and names of
-- sectors in it, for so many more sectors what is pending, and for so many more slots of its log its line under way
pub record State : Type 0 where
  pub id : ℕ
  pub server : Server
  pub flying : List ℕ  -- its cached sectors with a write in flight
  pub spare : ℕ
  pub sectors : ℕ
  pub names : ℕ
  pub zeros : ℕ
  pub slots : ℕ

-- before its first mount, and behind a recovery of its log, a server has no ring
abbrev pub ring_in : Option SpaciousRing → Ring
ring_in None = ring_at 0
ring_in (Some ring) = ring.ring

abbrev pub sectors_in : Option SpaciousRing → ℕ
sectors_in None = 0
sectors_in (Some ring) = ring.sectors

abbrev pub names_in : Option SpaciousRing → ℕ
names_in None = 0
names_in (Some ring) = ring.names

abbrev pub under_in : Option UnderState → Option Under
under_in under = option_map (λ u. u.under) under

-- its cached sectors with their flags
abbrev pub cached_in : State → FlaggedCache
cached_in state = record { entries = state.server.cache; staying = state.server.staying; flying = state.flying; spare = state.spare }

abbrev pub slots_under : Option UnderState → ℕ
slots_under None = 0
slots_under (Some under) = under.spare

-- ---- room

-- so many sectors of a cache, sectors of a log, names of sectors in it, and sectors that are pending
pub record Room : Type 0 where
  pub spare : ℕ
  pub sectors : ℕ
  pub names : ℕ
  pub zeros : ℕ

-- it is the same server, and there is no less room than before but for what is used
pub record KeepsRoomBut (used : Room) (old new : State) : Type 0 where
  pub id : new.id ≡ old.id
  pub spare : old.spare ≤ new.spare + used.spare
  pub sectors : old.sectors ≤ new.sectors + used.sectors
  pub names : old.names ≤ new.names + used.names
  pub zeros : old.zeros ≤ new.zeros + used.zeros

-- the same, and nothing is used
pub record KeepsRoom (old new : State) : Type 0 where
  pub id : new.id ≡ old.id
  pub spare : old.spare ≤ new.spare
  pub sectors : old.sectors ≤ new.sectors
  pub names : old.names ≤ new.names
  pub zeros : old.zeros ≤ new.zeros
