-- What the sectors with versions say after a history, and what the history says: which lock covers each sector, which sectors have versions, and which
-- sectors of bytes are free or were written.
use Rattle.std.specs.Prelude.{ℕ, ◌≡◌, Bool, true, false, Option, Some, List, ◌∷◌}
use Rattle.frang_base.specs.declared.lock.LockId.{LockId}
use Rattle.tree_definitions.specs.Tree.{FileTree}
use Rattle.sector_bytes.specs.Blocks.{Block}
use Rattle.sector_world.specs.HistoryBytes.{is_free}
use Rattle.sector_world.specs.Histories.{Commit, Item, logical, is_logged, Changes, Writes}
use Rattle.sector_world.specs.Histories.Item.{Done}
use Rattle.sector_world.specs.Seen as seen
use Rattle.disk_definitions.specs.Naming.{Naming}
use Rattle.disk_definitions.specs.Store.{Store}
use Rattle.disk_definitions.specs.Store.Use.{Fresh}
use Rattle.disk_definitions.specs.Ask.{Sector, InodeAt, DirectoryAt, SegmentAt, BytesAt, LargeAt, number_of}
use Rattle.disk_definitions.specs.Meets.{IsOfTree, is_directory_use}
use Rattle.disk_definitions.specs.Covers.{cover_of}
use Rattle.line_histories.specs.Files.{HoldsBytes}
use Rattle.disk_definitions.specs.Numbered.{sector_at}
use Rattle.line_histories.specs.LinePlans.{store_on}

-- what the sectors with versions say after the history
abbrev pub store_after : ℕ → (ℕ → Block) → List Item → Store
store_after segments opening h = store_on segments (logical opening h)

-- the lock under which the history moved a sector covers it, by whatever naming of what the sectors say, of whatever tree
abbrev pub CoversFollow : ℕ → (ℕ → Block) → (ℕ → LockId) → List Item → Type 0
CoversFollow segments opening home h =
    (tree : FileTree) (naming : Naming) → IsOfTree (store_after segments opening h) tree naming →
    (number : ℕ) (sector : Sector) → sector_at segments number ≡ Some sector → seen.cover_of home h number ≡ cover_of naming sector

-- a sector with a version: a segment's, an inode's, or that of a block that is a directory's or was one's
abbrev pub is_versioned : Store → Sector → Bool
is_versioned store (InodeAt inode) = true
is_versioned store (SegmentAt segment) = true
is_versioned store (DirectoryAt block part) = is_directory_use (store.use_of block)
is_versioned store (BytesAt block part) = is_directory_use (store.use_of block)
is_versioned store (LargeAt large part) = false

-- the history says so of each
abbrev pub KindsFollow : ℕ → (ℕ → Block) → (ℕ → Bool) → List Item → Type 0
KindsFollow segments opening logged h =
    (number : ℕ) (sector : Sector) → sector_at segments number ≡ Some sector → is_logged logged h number ≡ is_versioned (store_after segments opening h) sector

-- what an operation changes has a version after it, and what it writes or frees as bytes has none
pub record KeepsKinds (logged : ℕ → Bool) (h : List Item) (c : Commit) : Type 0 where
  pub named : (number : ℕ) → Changes number c → is_logged logged (Done c ∷ h) number ≡ true
  pub plain : (number : ℕ) → Writes number c → is_logged logged (Done c ∷ h) number ≡ false

-- a sector of a block that no node has and that never was a directory's
abbrev pub IsUnused : Store → Sector → Type 0
IsUnused store (DirectoryAt block part) = store.use_of block ≡ Fresh
IsUnused store (LargeAt large part) = store.large_bit large ≡ false
IsUnused store _ = ⊥

-- the history says that it is free
abbrev pub FreeFollow : ℕ → (ℕ → Block) → (ℕ → Option Block) → List Item → Type 0
FreeFollow segments opening first h =
    (number : ℕ) (sector : Sector) → sector_at segments number ≡ Some sector → IsUnused (store_after segments opening h) sector → is_free first h number ≡ true

-- each sector that holds bytes of a file below its size was written: the history doesn't say that it is free
abbrev pub FilledFollow : ℕ → (ℕ → Block) → (ℕ → Option Block) → List Item → Type 0
FilledFollow segments opening first h = (sector : Sector) → HoldsBytes (store_after segments opening h) sector → is_free first h (number_of sector) ≡ false

-- all of this
pub record Follows (segments : ℕ) (opening : ℕ → Block) (home : ℕ → LockId) (logged : ℕ → Bool) (first : ℕ → Option Block) (h : List Item) : Type 0 where
  pub covers : CoversFollow segments opening home h
  pub kinds : KindsFollow segments opening logged h
  pub free : FreeFollow segments opening first h
  pub filled : FilledFollow segments opening first h
