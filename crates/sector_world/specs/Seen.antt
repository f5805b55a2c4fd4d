-- The lock that covers a sector, and who saw an operation.
use Rattle.std.specs.Prelude.{ℕ, ◌<◌, ◌≤◌, ◌≡◌, ◌≢◌, ◌⊎◌, List, [], ◌∷◌, Option, Some, None, IsTrue}
use Rattle.frang_base.specs.declared.lock.LockId.{LockId}
use Rattle.frang_base.specs.Locks.{has_lock}
use Rattle.sector_world.specs.Histories.{Commit, Item, Entry, settled, Each, Changes, Moves, Writes, touches, reaches}
use Rattle.sector_world.specs.Histories.Item.{Done, Doubt}
use Rattle.sector_world.specs.Histories.Entry.{Did, Recovered, Synced, Mounted}

-- the lock that covers a sector after a move, or after none
abbrev pub moved : Option LockId → LockId → LockId
moved None lock = lock
moved (Some new) lock = new

-- the lock that covers a sector after these operations
abbrev pub cover_of : (ℕ → LockId) → List Item → ℕ → LockId
cover_of home [] s = home s
cover_of home (Done c ∷ h) s = moved (c.moves s) (cover_of home h s)
cover_of home (Doubt m ∷ h) s = cover_of home h s

-- the operation changes the sector, its cover or its bytes
abbrev pub Alters : ℕ → Commit → Type 0
Alters s c = Changes s c ⊎ (Moves s c ⊎ Writes s c)

-- the operation looks at the sector or at its bytes, or changes it, its cover or its bytes
abbrev pub Meets : ℕ → Commit → Type 0
Meets s c = IsTrue (touches c s) ⊎ (Moves s c ⊎ IsTrue (reaches c s))

-- an operation of d above k, which a recovery with k removes
pub record IsLost (d k : ℕ) (c : Commit) : Type 0 where
  pub of : c.by ≡ d
  pub above : k < c.op

-- no operation of d above k alters a sector that this one meets
abbrev pub SawNone : ℕ → ℕ → Commit → List Item → Type 0
SawNone d k c h = (s : ℕ) → Meets s c → Each (λ e. IsLost d k e → Alters s e → ⊥) h

-- no operation of d above k is seen: none of another server that came later met what it altered
abbrev pub Unseen : ℕ → ℕ → List Item → Type 0
Unseen d k [] = Unit {0}
Unseen d k (Done c ∷ h) = (c.by ≢ d → SawNone d k c h) × Unseen d k h
Unseen d k (Doubt m ∷ h) = Unseen d k h

-- no operation of d above k used a lock alone that this one uses
abbrev pub UsedNone : ℕ → ℕ → Commit → List Item → Type 0
UsedNone d k c h = (l : LockId) → IsTrue (has_lock l c.uses) → Each (λ e. IsLost d k e → IsTrue (has_lock l e.alone) → ⊥) h

-- no operation of d above k is met: none of another server that came later used a lock that it used alone
abbrev pub Unmet : ℕ → ℕ → List Item → Type 0
Unmet d k [] = Unit {0}
Unmet d k (Done c ∷ h) = (c.by ≢ d → UsedNone d k c h) × Unmet d k h
Unmet d k (Doubt m ∷ h) = Unmet d k h

-- no operation of d above k was synced, or was there at a mount of d
abbrev pub Unsynced : ℕ → ℕ → List Entry → Type 0
Unsynced d k [] = Unit {0}
Unsynced d k (Did c ∷ h) = Unsynced d k h
Unsynced d k (Recovered e j ∷ h) = Unsynced d k h
Unsynced d k (Synced e op ∷ h) = (e ≡ d → op ≤ k) × Unsynced d k h
Unsynced d k (Mounted e op ∷ h) = (e ≡ d → op ≤ k) × Unsynced d k h

-- no recovery removed an operation that was seen, met or synced at that place
abbrev pub Kept : List Entry → Type 0
Kept [] = Unit {0}
Kept (Did c ∷ h) = Kept h
Kept (Recovered d k ∷ h) = Unseen d k (settled h) × Unmet d k (settled h) × Unsynced d k h × Kept h
Kept (Synced d op ∷ h) = Kept h
Kept (Mounted d op ∷ h) = Kept h
