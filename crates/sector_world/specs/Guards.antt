-- When each event may happen.
use Rattle.std.specs.Prelude.{true, false, Bool, ℕ, ◌≡◌, ◌≢◌, ◌<◌, ◌≤◌, ◌+◌, ◌⊎◌, List, [], ◌∷◌, Option, Some, None, IsTrue, IsSome, is_some}
use Rattle.frang_base.specs.declared.limits.TheConstants.{LEASE_TICKS}
use Rattle.frang_base.specs.declared.change.Change.{Change}
use Rattle.frang_base.specs.declared.lock.LockId.{LockId}
use Rattle.frang_base.specs.declared.lock.Mode.{Mode}
use Rattle.frang_base.specs.declared.lock.Mode.TheVariants.{Shared, Sole}
use Rattle.sector_bytes.specs.Blocks.{Block, version_of, zero_block}
use Rattle.frang_base.specs.declared.change.Redo.{Redo}
use Rattle.sector_bytes.specs.Replays.{change_at, up_to}
use Rattle.frang_base.specs.Functions.{member}
use Rattle.frang_base.specs.Locks.{has_lock}
use Rattle.sector_world.specs.Histories.{Commit, settled, is_logged, touches, reaches, Changes, Moves, Writes}
use Rattle.sector_world.specs.Histories.Item.{Done}
use Rattle.sector_world.specs.HistoryBytes.{is_free}
use Rattle.sector_world.specs.Plans.{made_of}
use Rattle.sector_world.specs.World.{World, Slot, Page, Flight, ByteFlight, Rescue, cover, has_version}
use Rattle.sector_world.specs.World.Phase.{Off, Up, Dead}
use Rattle.sector_world.specs.World.Slot.{Absent, Clean, Dirty}
use Rattle.sector_world.specs.World.Page.{NoPage, CleanPage, DirtyPage, FreedPage}
use Rattle.sector_world.specs.World.Told.{Wanted, InPlace}

-- one server may hold this beside what another holds
abbrev pub Fits : Mode → Option Mode → Type 0
Fits mode None = Unit {0}
Fits Shared (Some Shared) = Unit {0}
Fits Sole (Some Shared) = ⊥
Fits Shared (Some Sole) = ⊥
Fits Sole (Some Sole) = ⊥

-- the slot isn't dirty
abbrev pub NotDirty : Slot → Type 0
NotDirty Absent = Unit {0}
NotDirty (Clean block) = Unit {0}
NotDirty (Dirty block mark) = ⊥

-- the page isn't dirty
abbrev pub NoDirtyPage : Page → Type 0
NoDirtyPage NoPage = Unit {0}
NoDirtyPage (CleanPage block) = Unit {0}
NoDirtyPage (DirtyPage block mark) = ⊥
NoDirtyPage (FreedPage mark) = Unit {0}

-- not dirty, unless the sector is free
abbrev pub DirtyIfFree : Page → Bool → Type 0
DirtyIfFree NoPage free = Unit {0}
DirtyIfFree (CleanPage block) free = Unit {0}
DirtyIfFree (DirtyPage block mark) free = free ≡ true
DirtyIfFree (FreedPage mark) free = Unit {0}

-- the change is of the cached sector, and raises its version
abbrev pub Based : Option Change → Slot → Type 0
Based None slot = Unit {0}
Based (Some x) Absent = ⊥
Based (Some x) (Clean block) = version_of block < x.version
Based (Some x) (Dirty block mark) = version_of block < x.version

-- a changed sector is held by this server alone
abbrev pub Owned : Option Change → Option Mode → Type 0
Owned None mode = Unit {0}
Owned (Some x) mode = mode ≡ Some Sole

-- both locks of a moved sector are held by this server alone; the second is that of the new lock
abbrev pub MovesOwned : Option LockId → Option Mode → (LockId → Option Mode) → Type 0
MovesOwned None mode holds = Unit {0}
MovesOwned (Some new) mode holds = (mode ≡ Some Sole) × (holds new ≡ Some Sole)

-- the bytes shown are those that are cached
abbrev pub Shows : Option Block → Page → Type 0
Shows None page = Unit {0}
Shows (Some v) NoPage = ⊥
Shows (Some v) (CleanPage block) = block ≡ v
Shows (Some v) (DirtyPage block mark) = block ≡ v
Shows (Some v) (FreedPage mark) = ⊥

-- each record up to k is in place at the sector, whose version this is
abbrev pub IsBelow : Option Change → ℕ → Type 0
IsBelow None n = Unit {0}
IsBelow (Some x) n = x.version ≤ n

-- so is each of these records up to k
abbrev pub AreBelow : ℕ → List Redo → ℕ → ℕ → Type 0
AreBelow k [] s n = Unit {0}
AreBelow k (r ∷ rs) s n = (r.op.0 ≤ k → IsBelow (change_at r.changes s) n) × AreBelow k rs s n

-- no record names the sector
abbrev pub NoneNames : List Redo → ℕ → Type 0
NoneNames [] s = Unit {0}
NoneNames (r ∷ rs) s = (change_at r.changes s ≡ None) × NoneNames rs s

-- the records that a recovery of d replays
abbrev pub to_replay : World → ℕ → List Redo
to_replay w d = up_to (w.durable d) (w.log d)

-- the lease of one that isn't dead grows: of a server that is up, or of who recovers and is never mounted
pub record CanRenew (w : World) (a : ℕ) : Type 0 where
  pub alive : w.phase a ≢ Dead
  pub later : w.expiry a < w.now + LEASE_TICKS

-- a server that is off and recovers none, and whose log is replayed with the others, mounts
pub record CanMount (w : World) (a : ℕ) : Type 0 where
  pub off : w.phase a ≡ Off
  pub resting : (r : Rescue) → w.rescue ≡ Some r → r.by ≢ a
  pub known : a < w.servers

-- an unmount answers as a sync does
pub record CanUnmount (w : World) (a : ℕ) : Type 0 where
  pub up : w.phase a ≡ Up
  pub given : (l : LockId) → w.holds a l ≡ None
  pub logged : w.last a ≤ w.acked a

-- a lock is taken that fits beside what the others hold
pub record CanTake (w : World) (a : ℕ) (l : LockId) (mode : Mode) : Type 0 where
  pub up : w.phase a ≡ Up
  pub more : w.holds a l ≢ Some Sole
  pub fits : (b : ℕ) → b ≢ a → Fits mode (w.holds b l)

-- nothing is dirty under the lock, none of the server's own writes that may still be in time is in flight under it, and where
-- it was held alone the whole log is acknowledged
pub record CanGive (w : World) (a : ℕ) (l : LockId) : Type 0 where
  pub up : w.phase a ≡ Up
  pub clean : (s : ℕ) → cover w s ≡ l → NotDirty (w.slot a s)
  pub clean_bytes : (s : ℕ) → cover w s ≡ l → NoDirtyPage (w.page a s)
  pub landed : (s : ℕ) (f : Flight) → cover w s ≡ l → w.flight s ≡ Some f → w.now ≤ f.stamp → f.by ≡ f.behalf → f.by ≢ a
  pub landed_bytes : (s : ℕ) (f : ByteFlight) → cover w s ≡ l → w.byte_flight s ≡ Some f → w.now ≤ f.stamp → f.by ≢ a
  pub logged : w.holds a l ≡ Some Sole → w.last a ≤ w.acked a

-- a lock that is held alone is held shared from now on, as it might be given
pub record CanLower (w : World) (a : ℕ) (l : LockId) : Type 0 where
  pub give : CanGive w a l
  pub alone : w.holds a l ≡ Some Sole

-- a sector that becomes one with versions: it had none, is free, and its zeros are acknowledged; it goes under another lock
pub record CanClaim (w : World) (c : Commit) (s : ℕ) : Type 0 where
  pub fresh : has_version w s ≡ false
  pub free : is_free w.first (settled w.history) s ≡ true
  pub cleared : w.page c.by s ≡ CleanPage zero_block
  pub moved : Moves s c

-- an operation is done over what its server has cached
pub record CanDo (w : World) (c : Commit) : Type 0 where
  pub up : w.phase c.by ≡ Up
  pub number : w.last c.by < c.op
  -- the locks
  pub used : (l : LockId) → IsTrue (has_lock l c.uses) → w.holds c.by l ≢ None
  pub alone : (l : LockId) → IsTrue (has_lock l c.alone) → w.holds c.by l ≡ Some Sole
  -- the sectors with versions
  pub looked : (s : ℕ) → IsTrue (touches c s) → w.holds c.by (cover w s) ≢ None
  pub owned : (s : ℕ) → Owned (change_at c.changes s) (w.holds c.by (cover w s))
  pub based : (s : ℕ) → Based (change_at c.changes s) (w.slot c.by s)
  pub moves : (s : ℕ) → MovesOwned (c.moves s) (w.holds c.by (cover w s)) (w.holds c.by)
  -- which sectors have versions
  pub claims : (s : ℕ) → c.claims s ≡ true → CanClaim w c s
  pub named : (s : ℕ) → Changes s c → is_logged w.logged (Done c ∷ settled w.history) s ≡ true
  pub plain : (s : ℕ) → Writes s c → is_logged w.logged (Done c ∷ settled w.history) s ≡ false
  -- the bytes: every sector under the locks that it uses is looked at
  pub sees : (s : ℕ) → c.sees s ≡ has_lock (cover w s) c.uses
  pub written : (s : ℕ) → Writes s c → w.holds c.by (cover w s) ≡ Some Sole
  pub shows : (s : ℕ) → Shows (c.shown s) (w.page c.by s)
  -- the bytes by the plan: it shows those that the plan reads, counts as a look where it does, and makes of them what the plan says
  pub reads : (s : ℕ) → is_some (c.shown s) ≡ member s c.reads
  pub noticed : (s : ℕ) → IsSome (c.shown s) → IsTrue (reaches c s)
  pub makes : (s : ℕ) → c.writes s ≡ made_of (c.makes s) (c.shown s)

-- a part of the log may come to the disk as long as the lease lasts, also of a dead server
pub record CanReach (w : World) (d k : ℕ) : Type 0 where
  pub more : w.durable d ≤ k
  pub there : k ≤ w.last d
  pub lease : w.now ≤ w.expiry d

-- a server knows of its log only what is on the disk
pub record CanAck (w : World) (a k : ℕ) : Type 0 where
  pub there : k ≤ w.durable a

-- the whole log is acknowledged, and no bytes are dirty but zeros of free sectors
pub record CanSync (w : World) (a : ℕ) : Type 0 where
  pub up : w.phase a ≡ Up
  pub acknowledged : w.last a ≤ w.acked a
  pub clean : (s : ℕ) → DirtyIfFree (w.page a s) (is_free w.first (settled w.history) s)

-- the records up to k are given up: each sector that they name is in place
pub record CanReclaim (w : World) (a k : ℕ) : Type 0 where
  pub up : w.phase a ≡ Up
  pub more : w.floor a ≤ k
  pub there : k ≤ w.last a
  pub written : (s : ℕ) → AreBelow k (w.log a) s (version_of (w.disk s))

-- a dead server's lease has ended, and so has the hold on its log of who took it before; who takes it now isn't dead
pub record CanBegin (w : World) (d b : ℕ) : Type 0 where
  pub dead : w.phase d ≡ Dead
  pub ended : w.expiry d < w.now
  pub given_up : w.until d < w.now
  pub alive : w.phase b ≢ Dead

-- each sector that a record names was found or written
pub record CanFinish (w : World) (r : Rescue) : Type 0 where
  pub going : w.rescue ≡ Some r
  pub all : (s : ℕ) → (r.told s ≡ InPlace) ⊎ NoneNames (to_replay w r.dead) s

-- a sector with a version

-- a sector that isn't cached, under a lock that is held
pub record CanFetch (w : World) (a s : ℕ) : Type 0 where
  pub up : w.phase a ≡ Up
  pub held : w.holds a (cover w s) ≢ None
  pub absent : w.slot a s ≡ Absent

-- a dirty sector whose record is known to be on the disk, by a server no call of which failed, with no write of it in flight
pub record CanIssue (w : World) (a s : ℕ) (block : Block) (mark : ℕ) : Type 0 where
  pub well : w.sick a ≡ false
  pub up : w.phase a ≡ Up
  pub dirty : w.slot a s ≡ Dirty block mark
  pub log_first : mark ≤ w.acked a
  pub alone : w.flight s ≡ None

-- a sector that the recovery wants written, with no write of it in flight
pub record CanReplay (w : World) (r : Rescue) (s : ℕ) (block : Block) : Type 0 where
  pub going : w.rescue ≡ Some r
  pub wanted : r.told s ≡ Wanted block
  pub alone : w.flight s ≡ None

-- a write comes to the disk in time
pub record CanLand (w : World) (s : ℕ) (f : Flight) : Type 0 where
  pub there : w.flight s ≡ Some f
  pub early : w.now ≤ f.stamp

-- a write comes too late, or is lost with its server
pub record CanFade (w : World) (s : ℕ) (f : Flight) : Type 0 where
  pub there : w.flight s ≡ Some f
  pub late : (f.stamp < w.now) ⊎ (w.phase f.by ≡ Dead)

-- a sector of bytes

-- a sector of bytes that count, not cached, under a lock that is held
pub record CanFetchBytes (w : World) (a s : ℕ) : Type 0 where
  pub up : w.phase a ≡ Up
  pub held : w.holds a (cover w s) ≢ None
  pub absent : w.page a s ≡ NoPage
  pub plain : has_version w s ≡ false
  pub filled : is_free w.first (settled w.history) s ≡ false

-- zeros for a free sector, before its block becomes a directory's
pub record CanClear (w : World) (a s : ℕ) : Type 0 where
  pub up : w.phase a ≡ Up
  pub held : w.holds a (cover w s) ≡ Some Sole
  pub plain : has_version w s ≡ false
  pub free : is_free w.first (settled w.history) s ≡ true

-- a dirty sector whose last operation is known to be in the log on the disk, with no write of it in flight
pub record CanIssueBytes (w : World) (a s : ℕ) (block : Block) (mark : ℕ) : Type 0 where
  pub well : w.sick a ≡ false
  pub up : w.phase a ≡ Up
  pub dirty : w.page a s ≡ DirtyPage block mark
  pub log_before : mark ≤ w.acked a
  pub alone : w.byte_flight s ≡ None

-- a write of bytes comes to the disk in time
pub record CanLandBytes (w : World) (s : ℕ) (f : ByteFlight) : Type 0 where
  pub there : w.byte_flight s ≡ Some f
  pub in_time : w.now ≤ f.stamp

-- a write of bytes comes too late, or is lost with its server
pub record CanFadeBytes (w : World) (s : ℕ) (f : ByteFlight) : Type 0 where
  pub there : w.byte_flight s ≡ Some f
  pub late : (f.stamp < w.now) ⊎ (w.phase f.by ≡ Dead)

-- a dirty sector of bytes that the disk has, with the log acknowledged up to its mark
pub record CanSettle (w : World) (a s : ℕ) (block : Block) (mark : ℕ) : Type 0 where
  pub up : w.phase a ≡ Up
  pub dirty : w.page a s ≡ DirtyPage block mark
  pub logged : mark ≤ w.acked a
  pub there : w.bytes s ≡ block
  pub alone : (f : ByteFlight) → w.byte_flight s ≡ Some f → w.now ≤ f.stamp → ⊥
