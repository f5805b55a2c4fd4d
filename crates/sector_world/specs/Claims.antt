-- What holds after every run, and at each event.
use Rattle.std.specs.Prelude.{ℕ, zero, suc, true, false, ◌≡◌, ◌≢◌, ◌<◌, ◌≤◌, ◌⊎◌, List, [], ◌∷◌, Option, Some, None, nat_eq, if◌then◌else◌}
use Rattle.sector_bytes.specs.Blocks.{Block, version_of}
use Rattle.frang_base.specs.declared.change.Redo.{Redo}
use Rattle.sector_bytes.specs.Replays.{change_at, redo_all}
use Rattle.frang_base.specs.declared.change.Change.{Change}
use Rattle.frang_base.specs.declared.lock.LockId.{LockId}
use Rattle.frang_base.specs.declared.lock.Mode.TheVariants.{Sole}
use Rattle.sector_world.specs.Histories.{Item, settled, kept, survives, recovered, logical, Each, OpsRise, Named, is_logged}
use Rattle.sector_world.specs.HistoryBytes.{Known, Agree, is_free}
use Rattle.sector_world.specs.Plans.{IsByPlan}
use Rattle.sector_world.specs.Seen.{Unmet, Unseen, Unsynced, Kept}
use Rattle.sector_world.specs.World.{World, Phase, Flight, ByteFlight, cover, block_at, has_version}
use Rattle.sector_world.specs.World.Phase.{Off, Up, Dead}
use Rattle.sector_world.specs.Guards.{to_replay, NotDirty, NoDirtyPage}
use Rattle.sector_world.specs.Steps.{Event, after}
use Rattle.sector_world.specs.Steps.Event.{Land, BreakNew, LandBytes, BreakBytesNew}
use Rattle.sector_world.specs.Logged.{now_of, IsCopy}
use Rattle.sector_world.specs.Bytes.{IsCopyPage, IsDiskPage}

-- the one disk after a replay of the durable records of the logs below n, in their order
abbrev pub replayed : World → ℕ → ℕ → Block
replayed w zero s = block_at w s
replayed w (suc n) s = redo_all (to_replay w n) s (replayed w n s)

-- what a recovery of d's log would leave now; a server that is off has nothing to recover, and nothing of it comes into doubt
abbrev pub left_by : Phase → ℕ → ℕ → ℕ → List Item → List Item
left_by Off d k n h = h
left_by Up d k n h = recovered d k n h
left_by Dead d k n h = recovered d k n h

-- what is left of the settled history if the logs of the servers below n that aren't off were recovered now, in their order
abbrev pub left : World → ℕ → List Item
left w zero = settled w.history
left w (suc n) = left_by (w.phase n) n (w.durable n) (w.synced n) (left w n)

-- A write of a sector with a version comes to the disk in order: the version rises; a durable record of the log on whose
-- behalf it comes names it with this version; it comes within its server's lease, with no recovery of its server begun; and
-- where it is on behalf of another, its server was the last to begin that one's recovery, which isn't over.
pub record IsOrdered (w : World) (s : ℕ) (f : Flight) : Type 0 where
  pub versioned : has_version w s ≡ true
  pub higher : version_of (block_at w s) < version_of f.block
  pub named : Named (to_replay w f.behalf) s (version_of f.block)
  pub leased : w.now ≤ w.expiry f.by
  pub untaken : w.taker f.by ≡ None
  pub taken : f.by ≢ f.behalf → w.taker f.behalf ≡ Some f.by

-- a write of bytes comes to a sector without a version, within its server's lease, with no recovery of its server begun
pub record IsPlain (w : World) (s : ℕ) (f : ByteFlight) : Type 0 where
  pub plain : has_version w s ≡ false
  pub leased : w.now ≤ w.expiry f.by
  pub untaken : w.taker f.by ≡ None

-- so does each write that an event brings to the disk
abbrev pub Orderly : World → Event → Type 0
Orderly w (Land s f) = IsOrdered w s f
Orderly w (BreakNew s f) = IsOrdered w s f
Orderly w (LandBytes s f) = IsPlain w s f
Orderly w (BreakBytesNew s f) = IsPlain w s f
Orderly w e = Unit {0}

-- the block that an event brings to a sector of the disk
abbrev pub came : ℕ → Block → ℕ → Option Block
came t block s = if nat_eq t s then Some block else None

-- the block that this event brings to the sector
abbrev pub brings : Event → ℕ → Option Block
brings (Land t f) s = came t f.block s
brings (BreakNew t f) s = came t f.block s
brings (LandBytes t f) s = came t f.block s
brings (BreakBytesNew t f) s = came t f.block s
brings e s = None

-- the block that came, or the old one
abbrev pub or_else : Option Block → Block → Block
or_else None old = old
or_else (Some block) old = block

-- there is one disk: a sector is what came last
abbrev pub IsOneDisk : World → Event → ℕ → Type 0
IsOneDisk w e s = block_at (after w e) s ≡ or_else (brings e s) (block_at w s)

-- a fact of each change of the sector by a record
abbrev pub EachNames : (Change → Type 0) → List Redo → ℕ → Type 0
EachNames P [] s = Unit {0}
EachNames P (r ∷ rs) s = ((x : Change) → change_at r.changes s ≡ Some x → P x) × EachNames P rs s

-- what holds after every run
pub record Holds (w : World) : Type 0 where
  -- no lock is held alone by one server and in any mode by another, and who is off holds none
  pub compatible : (a b : ℕ) (l : LockId) → w.holds a l ≡ Some Sole → w.holds b l ≢ None → a ≡ b
  pub off : (a : ℕ) (l : LockId) → w.phase a ≡ Off → w.holds a l ≡ None
  -- each write in flight is too late, or its sector's cover is held alone by the one on whose behalf it is
  pub in_flight : (s : ℕ) (f : Flight) → w.flight s ≡ Some f → (f.stamp < w.now) ⊎ (w.holds f.behalf (cover w s) ≡ Some Sole)
  pub in_flight_bytes : (s : ℕ) (f : ByteFlight) → w.byte_flight s ≡ Some f → (f.stamp < w.now) ⊎ (w.holds f.by (cover w s) ≡ Some Sole)
  -- each sector that a record of a log names has at least the named version on the disk, or the log's server holds its cover alone
  pub records : (d s : ℕ) → EachNames (λ x. (x.version ≤ version_of (block_at w s)) ⊎ (w.holds d (cover w s) ≡ Some Sole)) (w.log d) s
  -- each cached sector is the logical one, each cached page what a read shows, and the clean ones are the disk's
  pub coherent : (a s : ℕ) → IsCopy (w.slot a s) (now_of w s)
  pub coherent_bytes : (a s : ℕ) → IsCopyPage (w.page a s) (w.truth s)
  pub clean_bytes : (a s : ℕ) → IsDiskPage (w.page a s) (w.bytes s)
  -- what is known of bytes is what a read shows, and each read of the settled history showed the bytes that were known
  pub known : (s : ℕ) → Known w.first s (w.truth s) (settled w.history)
  pub agree : Agree w.first (settled w.history)
  -- what each operation read and made of bytes is what its plan said, also without what recoveries of all logs would remove
  pub by_plan : Each IsByPlan (settled w.history)
  pub left_by_plan : Each IsByPlan (left w w.servers)
  -- the disk with all logs replayed is the logical disk of what recoveries of all logs would leave
  pub recoverable : (s : ℕ) → is_logged w.logged (left w w.servers) s ≡ true → replayed w w.servers s ≡ logical w.opening (left w w.servers) s
  -- the disk, with no replay and with one, has all bytes that recoveries of all logs would leave known
  pub on_disk : (s : ℕ) → is_logged w.logged (left w w.servers) s ≡ false → Known w.first s (block_at w s) (left w w.servers)
  pub on_replayed : (s : ℕ) → is_logged w.logged (left w w.servers) s ≡ false → Known w.first s (replayed w w.servers s) (left w w.servers)
  pub left_agrees : Agree w.first (left w w.servers)
  -- what a server's recovery would remove now is a suffix of its operations that nobody saw or met and no sync answered for
  pub rise : OpsRise (settled w.history)
  pub unseen : (d : ℕ) → Unseen d (w.durable d) (settled w.history)
  pub unmet : (d : ℕ) → Unmet d (w.durable d) (settled w.history)
  pub unsynced : (d : ℕ) → Unsynced d (w.durable d) w.history
  -- of a server that is off it would remove nothing
  pub rested : (d : ℕ) → w.phase d ≡ Off → kept (survives d (w.durable d)) (settled w.history) ≡ settled w.history
  -- and so was what each recovery removed
  pub was_kept : Kept w.history

-- no server is dead, and none has anything dirty
pub record IsQuiet (w : World) : Type 0 where
  pub alive : (a : ℕ) → w.phase a ≢ Dead
  pub clean : (a s : ℕ) → NotDirty (w.slot a s)
  pub clean_bytes : (a s : ℕ) → NoDirtyPage (w.page a s)

-- then the disk has what was done: each sector with a version is the logical one, and the bytes are those that a read shows
pub record IsSettled (w : World) : Type 0 where
  pub sectors : (s : ℕ) → w.disk s ≡ now_of w s
  pub bytes : (s : ℕ) → is_free w.first (settled w.history) s ≡ false → w.bytes s ≡ w.truth s
