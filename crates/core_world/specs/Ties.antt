-- What ties a world of the theorem on sectors to a state of the core. The world is kept beside the core as data: what the core doesn't have (the history, what a read
-- shows, covers, the opening) is free in it but for these ties. Each tie is of parts of the core and of parts of the world, so that it is the same type where an event leaves these alone.
use Rattle.std.specs.Prelude.{◌≡◌, ◌≤◌, ◌+◌, ◌⊎◌, ◌↔◌, ℕ, ◌==◌, Bool, true, false, ◌&&◌, ◌||◌, if◌then◌else◌, Option, Some, None, IsTrue}
use Rattle.std.specs.List.{Contains}
use Rattle.std.specs.Option.{option_map}
use Rattle.frang_base.specs.declared.limits.TheConstants.{LEASE_TICKS}
use Rattle.frang_base.specs.declared.lock.LockId.{LockId}
use Rattle.lock_definitions.specs.declared.claim.LogHold.{LogHold}
use Rattle.lock_definitions.specs.Locks.{Locks, held, log_hold}
use Rattle.sector_bytes.specs.Blocks.{Block}
use Rattle.sector_bytes.specs.SectorMaps.{value_at}
use Rattle.sector_bytes.specs.Sectors.{Sectors}
use Rattle.disk_definitions.specs.Regions.{region_of}
use Rattle.disk_definitions.specs.Replay.{is_log}
use Rattle.cache_definitions.specs.declared.dirt.Dirt.{Dirt}
use Rattle.cache_definitions.specs.Caches.{CachedSector}
use Rattle.core_definitions.specs.Flights as core
use Rattle.core_definitions.specs.Recoveries.{Recovery, is_written}
use Rattle.core_definitions.specs.Scripts.{host_party}
use Rattle.core_definitions.specs.Servers as life
use Rattle.core_definitions.specs.Servers.{Server}
use Rattle.core_definitions.specs.LineGuards.{is_server}
use Rattle.core_definitions.specs.Rings.{is_all_reached}
use Rattle.core_definitions.specs.Cores.{Core}
use Rattle.sector_world.specs.World.{World, Phase, Off, Up, Dead, Slot, Absent, Clean, Dirty, Page, NoPage, CleanPage, DirtyPage, FreedPage, Flight, ByteFlight, Told, Unread, Wanted, InPlace, Rescue, cover, has_version, block_at}

-- ---- lives and leases

-- a stalled server and a doomed one are mounted
abbrev pub phase_of : life.Phase → Phase
phase_of life.Off = Off
phase_of life.Up = Up
phase_of life.Still = Up
phase_of (life.Doomed fate) = Up
phase_of life.Dead = Dead

-- the host recovers and is never mounted: its lease is renewed at each moment
abbrev pub expiry_at : ℕ → ℕ → ℕ → ℕ
expiry_at now a expiry = if a == host_party then now + LEASE_TICKS else expiry

-- the clock, and of each server its phase, its lease, and that it is well where no call of it failed
abbrev pub AreLives : ℕ → (ℕ → Server) → World → Type 0
AreLives time servers w = record {
  now : w.now ≡ time;
  phase : (a : ℕ) → w.phase a ≡ phase_of (servers a).phase;
  expiry : (a : ℕ) → w.expiry a ≡ expiry_at time a (servers a).expiry;
  well : (a : ℕ) → (servers a).failed ≡ false → w.phase a ≡ Up → w.sick a ≡ false;
}

-- ---- locks

-- until when a log is held
abbrev pub until_of : Option LogHold → ℕ
until_of None = 0
until_of (Some hold) = hold.expiry

-- who has taken it
abbrev pub taker_of : Option LogHold → Option ℕ
taker_of hold = option_map (λ h. h.by.0) hold

-- who holds what, who has taken which log, and until when
abbrev pub AreHeld : Locks → World → Type 0
AreHeld locks w = record {
  holds : (a : ℕ) (l : LockId) → w.holds a l ≡ held locks a l;
  taker : (d : ℕ) → w.taker d ≡ taker_of (log_hold locks d);
  until : (d : ℕ) → w.until d ≡ until_of (log_hold locks d);
}

-- ---- caches

-- what is cached of a sector with a version
abbrev pub IsSlotOf : Option Dirt → Block → Slot → Type 0
IsSlotOf None block slot = slot ≡ Clean block
IsSlotOf (Some dirt) block slot = (m : ℕ) × (slot ≡ Dirty block m)

-- of one of bytes: those that the core has dirty, and the zeros of a cleared block, too
abbrev pub IsPageOf : Option Dirt → Block → Page → Type 0
IsPageOf None block page = page ≡ CleanPage block
IsPageOf (Some dirt) block page = (m : ℕ) × (page ≡ DirtyPage block m)

-- what isn't cached: a page that was freed is forgotten
abbrev pub IsNoPage : Page → Type 0
IsNoPage page = (page ≡ NoPage) ⊎ ((m : ℕ) × (page ≡ FreedPage m))

-- by the side that counts; the cover kept is the cover
abbrev pub IsCachedAs : Bool → LockId → Option CachedSector → Slot → Page → Type 0
IsCachedAs true lock None slot page = slot ≡ Absent
IsCachedAs true lock (Some kept) slot page = (kept.cover ≡ lock) × IsSlotOf kept.dirt kept.block slot
IsCachedAs false lock None slot page = (slot ≡ Absent) × IsNoPage page
IsCachedAs false lock (Some kept) slot page = (kept.cover ≡ lock) × (slot ≡ Absent) × IsPageOf kept.dirt kept.block page

-- at each server and sector
abbrev pub AreCached : (ℕ → Server) → World → Type 0
AreCached servers w = (a s : ℕ) → IsCachedAs (has_version w s) (cover w s) (value_at (servers a).cache s) (w.slot a s) (w.page a s)

-- ---- marks

-- the log is acknowledged up to a mark of the core exactly where the operations up to that of the world are
abbrev pub IsMark : (reached acked mark m : ℕ) → Type 0
IsMark reached acked mark m = (mark ≤ reached) ↔ (m ≤ acked)

-- of a dirty slot
abbrev pub IsSlotMark : (reached acked mark : ℕ) → Slot → Type 0
IsSlotMark reached acked mark (Dirty block m) = IsMark reached acked mark m
IsSlotMark reached acked mark slot = Unit {0}

-- of a dirty page
abbrev pub IsPageMark : (reached acked mark : ℕ) → Page → Type 0
IsPageMark reached acked mark (DirtyPage block m) = IsMark reached acked mark m
IsPageMark reached acked mark page = Unit {0}

-- of what is dirty in the core
abbrev pub IsDirtAs : (reached acked : ℕ) → Option Dirt → Slot → Page → Type 0
IsDirtAs reached acked None slot page = Unit {0}
IsDirtAs reached acked (Some dirt) slot page = IsSlotMark reached acked dirt.mark slot × IsPageMark reached acked dirt.mark page

-- of what is cached there
abbrev pub IsMarkedAs : (reached acked : ℕ) → Option CachedSector → Slot → Page → Type 0
IsMarkedAs reached acked None slot page = Unit {0}
IsMarkedAs reached acked (Some kept) slot page = IsDirtAs reached acked kept.dirt slot page

-- at each server and sector, by how far the log is acknowledged on either side
abbrev pub AreMarked : (ℕ → Server) → World → Type 0
AreMarked servers w = (a s : ℕ) → IsMarkedAs (servers a).ring.reached (w.acked a) (value_at (servers a).cache s) (w.slot a s) (w.page a s)

-- ---- writes in flight

-- a write of the core: of the present mount in place it has its sector's cover
pub record IsFlying (flights : core.Flights) (s : ℕ) (lock : LockId) (by behalf stamp : ℕ) (block : Block) : Type 0 where
  pub one : ℕ × core.Flight
  pub among : Contains flights one
  pub sector : one.1.sector ≡ s
  pub server : one.1.server ≡ by
  pub behalf_is : one.1.behalf ≡ behalf
  pub stamp_is : one.1.stamp ≡ stamp
  pub block_is : one.1.block ≡ block
  pub place : by ≡ behalf → one.1.present ≡ true → one.1.purpose ≡ core.InPlace lock

-- the world has a write that may still come in time
abbrev pub IsShown : Bool → core.Flight → Option Flight → Option ByteFlight → Type 0
IsShown true one flight byte_flight = flight ≡ Some (record { by = one.server; behalf = one.behalf; stamp = one.stamp; block = one.block })
IsShown false one flight byte_flight = byte_flight ≡ Some (record { by = one.server; stamp = one.stamp; block = one.block })

-- the sector is in a log
abbrev pub is_log_sector : ℕ → ℕ → Bool
is_log_sector segments s = is_log (region_of segments s)

-- each write of the world is one of the core, and each of the core that may still come in time and isn't of a log is the world's
abbrev pub AreFlying : ℕ → ℕ → core.Flights → World → Type 0
AreFlying segments now flights w = record {
  flight : (s : ℕ) (f : Flight) → w.flight s ≡ Some f → IsFlying flights s (cover w s) f.by f.behalf f.stamp f.block;
  bytes : (s : ℕ) (f : ByteFlight) → w.byte_flight s ≡ Some f → IsFlying flights s (cover w s) f.by f.by f.stamp f.block;
  shown : (one : ℕ × core.Flight) → Contains flights one → now ≤ one.1.stamp → is_log_sector segments one.1.sector ≡ false →
      IsShown (has_version w one.1.sector) one.1 (w.flight one.1.sector) (w.byte_flight one.1.sector);
}

-- ---- the disk

-- the side that counts of each sector that is in no log is the disk's
abbrev pub IsOnDisk : ℕ → Sectors → World → Type 0
IsOnDisk segments disk w = (s : ℕ) → is_log_sector segments s ≡ false → block_at w s ≡ disk s

-- ---- recoveries

-- what the block is that is wanted there, or that its write is acknowledged
abbrev pub IsToldOnce : Bool → Block → Told → Type 0
IsToldOnce true block told = told ≡ InPlace
IsToldOnce false block told = told ≡ Wanted block

-- what a recovery has found of a sector: not looked at yet, nothing to write, or a block to write
abbrev pub IsTold : Recovery → ℕ → Option (Option Block) → Told → Type 0
IsTold recovery s None told = told ≡ Unread
IsTold recovery s (Some None) told = told ≡ InPlace
IsTold recovery s (Some (Some block)) told = IsToldOnce (is_written recovery s) block told

-- the recovery of the world is this one of this server
pub record IsRescueOf (by : ℕ) (recovery : Recovery) (rescue : Option Rescue) : Type 0 where
  pub r : Rescue
  pub is : rescue ≡ Some r
  pub dead : r.dead ≡ recovery.dead
  pub who : r.by ≡ by
  pub told : (s : ℕ) → IsTold recovery s (value_at recovery.looked s) (r.told s)

-- Up, or the host
abbrev pub is_working : (ℕ → Server) → ℕ → Bool
is_working servers a = (is_server a && life.is_up (servers a).phase) || a == host_party

-- it can't end: a put of it failed, its server has nothing of that sector in flight, and no write of its server is issued any more
pub record IsStuck (by : ℕ) (flights : core.Flights) (failed : Bool) (recovery : Recovery) : Type 0 where
  pub has_failed : failed ≡ true
  pub sector : ℕ
  pub block : Block
  pub looked : value_at recovery.looked sector ≡ Some (Some block)
  pub unwritten : is_written recovery sector ≡ false
  pub unsent : (one : ℕ × core.Flight) → Contains flights one → one.1.server ≡ by → one.1.sector ≡ sector → ⊥

-- a recovery under way is the world's, or can't end; and the world's is one of its server
abbrev pub AreRescues : (ℕ → Server) → core.Flights → World → Type 0
AreRescues servers flights w = record {
  under_way : (by : ℕ) (recovery : Recovery) → IsTrue (is_working servers by) → (servers by).recovery ≡ Some recovery →
      IsRescueOf by recovery w.rescue ⊎ IsStuck by flights (servers by).failed recovery;
  known : (r : Rescue) → w.rescue ≡ Some r → (recovery : Recovery) × ((servers r.by).recovery ≡ Some recovery) × (recovery.dead ≡ r.dead);
}

-- ---- logs, as far as locks ask of them: where all is acknowledged, so are all operations

-- of each server
abbrev pub AreLogged : (ℕ → Server) → World → Type 0
AreLogged servers w = (a : ℕ) → IsTrue (is_all_reached (servers a).ring) → w.last a ≤ w.acked a

-- ---- all of these

-- a halt empties the core's list of flights, and nothing happens after it: of writes and of recoveries nothing is asked then
abbrev pub AreTied : Core → Sectors → World → Type 0
AreTied c disk w = record {
  lives : AreLives c.now c.servers w;
  locks : AreHeld c.locks w;
  cached : AreCached c.servers w;
  marked : AreMarked c.servers w;
  flying : c.over ≡ false → AreFlying c.setting.segments c.now c.flights w;
  disk : IsOnDisk c.setting.segments disk w;
  rescues : c.over ≡ false → AreRescues c.servers c.flights w;
  logged : AreLogged c.servers w;
}
