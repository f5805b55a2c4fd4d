-- What every step keeps of the sectors with versions.
use Rattle.std.specs.Prelude.{false, IsTrue, ℕ, ◌<◌, ◌≤◌, ◌≡◌, ◌≢◌, ◌⊎◌, ◌+◌, List, Option, Some, None}
use Rattle.frang_base.specs.declared.limits.TheConstants.{LEASE_TICKS}
use Rattle.frang_base.specs.declared.lock.LockId.{LockId}
use Rattle.frang_base.specs.declared.lock.Mode.{Mode}
use Rattle.frang_base.specs.declared.lock.Mode.TheVariants.{Sole}
use Rattle.sector_bytes.specs.Blocks.{Block, version_of}
use Rattle.frang_base.specs.Locks.{has_lock}
use Rattle.sector_bytes.specs.Replays.{redo_all}
use Rattle.sector_world.specs.Histories.{Commit, Item, settled, logical, own, Each, OpsRise, Named, IsLast}
use Rattle.sector_world.specs.OnDisk.{Rising, OnDisk}
use Rattle.sector_world.specs.Seen.{Unmet, Alters, Unseen, Unsynced, Kept}
use Rattle.sector_world.specs.World.{World, Phase, Slot, Flight, Told, Rescue, cover}
use Rattle.sector_world.specs.World.Phase.{Off, Up, Dead}
use Rattle.sector_world.specs.World.Slot.{Absent, Clean, Dirty}
use Rattle.sector_world.specs.World.Told.{Unread, Wanted, InPlace}
use Rattle.sector_world.specs.Guards.{to_replay}

-- the sectors after all operations of the settled history
abbrev pub now_of : World → ℕ → Block
now_of w s = logical w.opening (settled w.history) s

-- what is cached is this
abbrev pub IsCopy : Slot → Block → Type 0
IsCopy Absent block = Unit {0}
IsCopy (Clean x) block = x ≡ block
IsCopy (Dirty x mark) block = x ≡ block

-- an operation that may not be in place at a sector: its server is dead, or has the sector dirty with a mark that is not less
abbrev pub Covers : Phase → Slot → ℕ → Type 0
Covers Off slot op = ⊥
Covers Dead slot op = Unit {0}
Covers Up Absent op = ⊥
Covers Up (Clean block) op = ⊥
Covers Up (Dirty block mark) op = op ≤ mark

-- an operation that may not be in place at a sector
abbrev pub Pending : World → ℕ → Commit → Type 0
Pending w s c = record {
  sole : w.holds c.by (cover w s) ≡ Some Sole;
  above : w.floor c.by < c.op;
  covered : Covers (w.phase c.by) (w.slot c.by s) c.op;
}

-- a cached sector's cover is held, that of a dirty one alone
abbrev pub HeldIf : Slot → Option Mode → Type 0
HeldIf Absent mode = Unit {0}
HeldIf (Clean block) mode = mode ≢ None
HeldIf (Dirty block mark) mode = mode ≡ Some Sole

-- the mark of a dirty sector is of the last operation that changed it
abbrev pub IsAhead : ℕ → ℕ → ℕ → List Item → Slot → Type 0
IsAhead last s a h Absent = Unit {0}
IsAhead last s a h (Clean block) = Unit {0}
IsAhead last s a h (Dirty block mark) = (mark ≤ last) × IsLast s a mark h

-- a dirty sector is newer than the disk's
abbrev pub IsNewer : Block → Slot → Type 0
IsNewer old Absent = Unit {0}
IsNewer old (Clean block) = Unit {0}
IsNewer old (Dirty block mark) = version_of old < version_of block

-- who is off holds no lock
abbrev pub NoneIfOff : Phase → Option Mode → Type 0
NoneIfOff Off mode = mode ≡ None
NoneIfOff Up mode = Unit {0}
NoneIfOff Dead mode = Unit {0}

-- who isn't up has nothing cached
abbrev pub AbsentUnlessUp : Phase → Slot → Type 0
AbsentUnlessUp Off slot = slot ≡ Absent
AbsentUnlessUp Up slot = Unit {0}
AbsentUnlessUp Dead slot = slot ≡ Absent

-- the sector that a server's own write in flight has: it is still dirty, and has it or a newer one
abbrev pub Agrees : Phase → Slot → Block → Type 0
Agrees Off slot f = ⊥
Agrees Dead slot f = Unit {0}
Agrees Up Absent f = ⊥
Agrees Up (Clean block) f = ⊥
Agrees Up (Dirty block mark) f = (block ≡ f) ⊎ (version_of f < version_of block)

-- a write in flight is its server's own
abbrev pub IsOwn : World → ℕ → Flight → Type 0
IsOwn w s f = record {
  same : f.by ≡ f.behalf;
  agrees : Agrees (w.phase f.by) (w.slot f.by s) f.block;
}

-- a write in flight is of the recovery that was begun last of a dead server's log
abbrev pub IsRescue : World → ℕ → Flight → Type 0
IsRescue w s f = record {
  dead : w.phase f.behalf ≡ Dead;
  taker : w.taker f.behalf ≡ Some f.by;
  until : f.stamp ≤ w.until f.behalf;
  told : (r : Rescue) → w.rescue ≡ Some r → r.dead ≡ f.behalf → r.told s ≡ Wanted f.block;
  rescuer : (r : Rescue) → w.rescue ≡ Some r → r.dead ≡ f.behalf → r.by ≡ f.by;
}

-- a write in flight that may still come in time
abbrev pub FlightOk : World → ℕ → Flight → Type 0
FlightOk w s f = record {
  place : OnDisk w.opening w.durable s (Pending w s) f.block (settled w.history);
  higher : version_of (w.disk s) < version_of f.block;
  lease : f.stamp ≤ w.expiry f.by;
  sole : w.holds f.behalf (cover w s) ≡ Some Sole;
  named : Named (to_replay w f.behalf) s (version_of f.block);
  source : IsOwn w s f ⊎ IsRescue w s f;
}

-- what a recovery has found is what a replay makes of the disk's sector
abbrev pub ToldOk : Told → Block → Block → Type 0
ToldOk Unread old new = Unit {0}
ToldOk (Wanted block) old new = (block ≡ new) × (version_of old < version_of new)
ToldOk InPlace old new = new ≡ old

-- the recovery under way is of a dead server whose lease ended, by one that isn't dead and took the log last
abbrev pub RescueOk : World → Rescue → Type 0
RescueOk w r = record {
  dead : w.phase r.dead ≡ Dead;
  ended : w.expiry r.dead < w.now;
  alive : w.phase r.by ≢ Dead;
  taker : w.taker r.dead ≡ Some r.by;
  until : w.until r.dead ≡ w.expiry r.by;
  told : (s : ℕ) → ToldOk (r.told s) (w.disk s) (redo_all (to_replay w r.dead) s (w.disk s));
}

-- what every step keeps of the sectors with versions, of locks, leases and logs
abbrev pub Logged : World → Type 0
Logged w = record {
  logs : (d : ℕ) → w.log d ≡ own d (w.floor d) (settled w.history);
  apart : (a b : ℕ) (l : LockId) → w.holds a l ≡ Some Sole → w.holds b l ≢ None → a ≡ b;
  known : (a : ℕ) → w.phase a ≢ Off → a < w.servers;
  leases : (a : ℕ) → w.expiry a ≤ w.now + LEASE_TICKS;
  ends : (d : ℕ) → w.until d ≤ w.now + LEASE_TICKS;
  begun : (d b : ℕ) → w.taker d ≡ Some b → (w.phase d ≡ Dead) × (w.expiry d < w.now);
  off_free : (a : ℕ) (l : LockId) → NoneIfOff (w.phase a) (w.holds a l);
  rested : (a : ℕ) → w.phase a ≡ Off → w.last a ≤ w.durable a;
  not_up : (a s : ℕ) → AbsentUnlessUp (w.phase a) (w.slot a s);
  held : (a s : ℕ) → HeldIf (w.slot a s) (w.holds a (cover w s));
  copies : (a s : ℕ) → IsCopy (w.slot a s) (now_of w s);
  ahead : (a s : ℕ) → IsAhead (w.last a) s a (settled w.history) (w.slot a s);
  newer : (a s : ℕ) → w.sick a ≡ false → IsNewer (w.disk s) (w.slot a s);
  place : (s : ℕ) → OnDisk w.opening w.durable s (Pending w s) (w.disk s) (settled w.history);
  firm : (s : ℕ) → Each (λ e. Alters s e → w.durable e.by < e.op → w.holds e.by (cover w s) ≡ Some Sole) (settled w.history);
  locked : Each (λ e. w.durable e.by < e.op → (l : LockId) → IsTrue (has_lock l e.alone) → w.holds e.by l ≡ Some Sole) (settled w.history);
  rising : (s : ℕ) → Rising w.opening s (settled w.history);
  ops : OpsRise (settled w.history);
  below : Each (λ c. c.op ≤ w.last c.by) (settled w.history);
  reached : (d : ℕ) → w.durable d ≤ w.last d;
  acks : (d : ℕ) → w.acked d ≤ w.durable d;
  floored : (d : ℕ) → w.floor d ≤ w.last d;
  unseen : (d : ℕ) → Unseen d (w.durable d) (settled w.history);
  unmet : (d : ℕ) → Unmet d (w.durable d) (settled w.history);
  unsynced : (d : ℕ) → Unsynced d (w.durable d) w.history;
  was_kept : Kept w.history;
  flights : (s : ℕ) (f : Flight) → w.flight s ≡ Some f → w.now ≤ f.stamp → FlightOk w s f;
  rescued : (r : Rescue) → w.rescue ≡ Some r → RescueOk w r;
}
