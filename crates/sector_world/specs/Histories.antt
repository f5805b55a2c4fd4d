-- Histories of operations, the newest first, and what recoveries leave of them.
use Rattle.std.specs.Prelude.{◌⊎◌, ℕ, ◌<◌, ◌≡◌, Bool, true, false, List, [], ◌∷◌, Option, Some, IsSome, is_some, nat_eq, nat_lt, nat_le, if◌then◌else◌}
use Rattle.frang_base.specs.declared.change.Change.{Change}
use Rattle.frang_base.specs.declared.lock.LockId.{LockId}
use Rattle.frang_base.specs.declared.op.Op.{Op}
use Rattle.frang_base.specs.declared.reply.Reply.{Reply}
use Rattle.sector_bytes.specs.Blocks.{Block}
use Rattle.frang_base.specs.declared.change.Redo.{Redo}
use Rattle.sector_bytes.specs.Replays.{change_at, forced}
use Rattle.frang_base.specs.Functions.{keep_if, member}

-- what an operation makes of a sector of file bytes: these bytes, or a free sector whose bytes count for nothing
pub data Fill : Type 0 where
  Written : (block : Block) → Fill
  Freed : Fill

-- what one operation did
pub record Commit : Type 0 where
  pub by : ℕ  -- its server
  pub op : ℕ  -- its number
  pub hint : List ℕ  -- what its server chose and the sectors don't say: the segments from which it might take
  pub asked : Op
  pub reply : Reply  -- without the bytes that it shows
  pub blocks : ℕ  -- how many directory blocks it counted
  pub looked : List ℕ  -- the sectors with versions that it looked at
  pub changes : List Change
  pub claims : ℕ → Bool  -- the sectors that it makes ones with versions
  pub moves : ℕ → Option LockId  -- the sectors that it moved under other locks
  pub reads : List ℕ  -- the sectors of bytes that it read
  pub makes : ℕ → Option (Option Block → Fill)  -- what it makes of sectors of bytes, by the bytes that it read there
  pub writes : ℕ → Option Fill  -- the sectors of bytes that it wrote or freed
  pub sees : ℕ → Bool  -- the sectors of bytes under the locks that it used
  pub shown : ℕ → Option Block  -- the bytes that it showed
  pub uses : List LockId  -- the locks that it used
  pub alone : List LockId  -- and those that it used alone

-- what happened: an operation; the end of a recovery of this server's log, whose greatest number was `keeps`; a sync, or a
-- mount, that covers the server's operations up to a number
pub data Entry : Type 0 where
  Did : (c : Commit) → Entry
  Recovered : (server keeps : ℕ) → Entry
  Synced : (server op : ℕ) → Entry
  Mounted : (server op : ℕ) → Entry

-- what is left of a history: operations, and marks of the sectors of bytes that a recovery put in doubt
pub data Item : Type 0 where
  Done : (c : Commit) → Item
  Doubt : (marked : ℕ → Bool) → Item

-- the record of an operation
abbrev pub redo_of : Commit → Redo
redo_of c = record { op = record { 0 = c.op }; changes = c.changes }

-- the operations that pass the test, with the marks of doubt
abbrev pub kept : (Commit → Bool) → List Item → List Item
kept keep [] = []
kept keep (Done c ∷ h) = keep_if (keep c) (Done c) (kept keep h)
kept keep (Doubt m ∷ h) = Doubt m ∷ kept keep h

-- the operation stays when d's log is recovered and k is its greatest number
abbrev pub survives : ℕ → ℕ → Commit → Bool
survives d k c = if nat_eq c.by d then nat_le c.op k else true

-- what one operation says of a sector of bytes: a write is d's and not synced, or another server looked, or nothing
abbrev pub doubt_step : Bool → Bool → Bool → Bool → Bool → Bool
doubt_step true looked own unsynced older = if own then unsynced else false
doubt_step false true own unsynced older = if own then older else false
doubt_step false false own unsynced older = older

-- the last that wrote the sector is d's, above n, and none of another server looked at it since
abbrev pub in_doubt : ℕ → ℕ → List Item → ℕ → Bool
in_doubt d n [] s = false
in_doubt d n (Done c ∷ h) s = doubt_step (is_some (c.writes s)) (c.sees s) (nat_eq c.by d) (nat_lt n c.op) (in_doubt d n h s)
in_doubt d n (Doubt m ∷ h) s = in_doubt d n h s

-- up to which number d's operations were before its last mount or are synced
abbrev pub synced_of : ℕ → List Entry → ℕ
synced_of d [] = 0
synced_of d (Did c ∷ h) = synced_of d h
synced_of d (Recovered e k ∷ h) = synced_of d h
synced_of d (Synced e n ∷ h) = if nat_eq d e then n else synced_of d h
synced_of d (Mounted e n ∷ h) = if nat_eq d e then n else synced_of d h

-- a recovery of d's log with k: d's operations above k go, and bytes whose last write is d's and not synced, n, are in doubt
abbrev pub recovered : ℕ → ℕ → ℕ → List Item → List Item
recovered d k n h = Doubt (in_doubt d n (kept (survives d k) h)) ∷ kept (survives d k) h

-- what is left once the recoveries have acted
abbrev pub settled : List Entry → List Item
settled [] = []
settled (Did c ∷ h) = Done c ∷ settled h
settled (Recovered d k ∷ h) = recovered d k (synced_of d h) (settled h)
settled (Synced d k ∷ h) = settled h
settled (Mounted d k ∷ h) = settled h

-- each server's operations up to its number
abbrev pub is_left : (ℕ → ℕ) → Commit → Bool
is_left durable c = nat_le c.op (durable c.by)

-- the logical disk: the opening's sectors after all operations
abbrev pub logical : (ℕ → Block) → List Item → ℕ → Block
logical opening [] s = opening s
logical opening (Done c ∷ h) s = forced (change_at c.changes s) (logical opening h s)
logical opening (Doubt m ∷ h) s = logical opening h s

-- the operation is d's, above a number
abbrev pub is_own : ℕ → ℕ → Commit → Bool
is_own d floor c = if nat_eq c.by d then nat_lt floor c.op else false

-- the records of d's operations above a number
abbrev pub own : ℕ → ℕ → List Item → List Redo
own d floor [] = []
own d floor (Done c ∷ h) = keep_if (is_own d floor c) (redo_of c) (own d floor h)
own d floor (Doubt m ∷ h) = own d floor h

-- a fact of each operation
abbrev pub Each : (Commit → Type 0) → List Item → Type 0
Each P [] = Unit {0}
Each P (Done c ∷ h) = P c × Each P h
Each P (Doubt m ∷ h) = Each P h

-- the operation changes the sector, moves it under another lock, writes or frees its bytes
abbrev pub Changes : ℕ → Commit → Type 0
Changes s c = IsSome (change_at c.changes s)

-- the operation moves the sector under another lock
abbrev pub Moves : ℕ → Commit → Type 0
Moves s c = IsSome (c.moves s)

-- the operation writes the sector's bytes, or frees them
abbrev pub Writes : ℕ → Commit → Type 0
Writes s c = IsSome (c.writes s)

-- the operation looked at the sector or changed it
abbrev pub touches : Commit → ℕ → Bool
touches c s = if is_some (change_at c.changes s) then true else member s c.looked

-- the operation looked at the sector's bytes or wrote them
abbrev pub reaches : Commit → ℕ → Bool
reaches c s = if is_some (c.writes s) then true else c.sees s

-- the numbers of each server rise
abbrev pub OpsRise : List Item → Type 0
OpsRise [] = Unit {0}
OpsRise (Done c ∷ h) = Each (λ e. e.by ≡ c.by → e.op < c.op) h × OpsRise h
OpsRise (Doubt m ∷ h) = OpsRise h

-- a record of the log names the sector with this version
abbrev pub Named : List Redo → ℕ → ℕ → Type 0
Named [] s v = ⊥
Named (r ∷ rs) s v = ((x : Change) × (change_at r.changes s ≡ Some x) × (x.version ≡ v)) ⊎ Named rs s v

-- the last operation that changed the sector is this one's
abbrev pub IsLast : ℕ → ℕ → ℕ → List Item → Type 0
IsLast s a mark [] = ⊥
IsLast s a mark (Done c ∷ h) = ((c.by ≡ a) × (c.op ≡ mark) × Changes s c) ⊎ ((Changes s c → ⊥) × IsLast s a mark h)
IsLast s a mark (Doubt m ∷ h) = IsLast s a mark h

-- the sector has a version: from the start, or since an operation that made it one
abbrev pub is_logged : (ℕ → Bool) → List Item → ℕ → Bool
is_logged first [] s = first s
is_logged first (Done c ∷ h) s = if c.claims s then true else is_logged first h s
is_logged first (Doubt m ∷ h) s = is_logged first h s
