-- How far a sector on the disk has come in the history.
use Rattle.std.specs.Prelude.{ℕ, ◌<◌, ◌≤◌, ◌≡◌, Bool, List, [], ◌∷◌, Option, Some, None}
use Rattle.frang_base.specs.declared.change.Change.{Change}
use Rattle.sector_bytes.specs.Blocks.{Block, version_of}
use Rattle.sector_bytes.specs.Replays.{change_at}
use Rattle.sector_world.specs.Histories.{Commit, Item, logical, Each, Changes}
use Rattle.sector_world.specs.Histories.Item.{Done, Doubt}

-- each change raises the sector's version
abbrev pub Raises : Option Change → Block → Type 0
Raises None block = Unit {0}
Raises (Some x) block = version_of block < x.version

-- along the history each change of the sector raises its version
abbrev pub Rising : (ℕ → Block) → ℕ → List Item → Type 0
Rising opening s [] = Unit {0}
Rising opening s (Done c ∷ h) = Raises (change_at c.changes s) (logical opening h s) × Rising opening s h
Rising opening s (Doubt m ∷ h) = Rising opening s h

-- each operation that changed the sector is durable
abbrev pub AllDurable : (ℕ → ℕ) → ℕ → List Item → Type 0
AllDurable durable s h = Each (λ c. Changes s c → c.op ≤ durable c.by) h

-- the sector on the disk is the history's after its older part, and each newer operation that changed it has P
pub data OnDisk (opening : ℕ → Block) (durable : ℕ → ℕ) (s : ℕ) (P : Commit → Type 0) (block : Block) : List Item → Type 0 where
  in_place : {h : List Item} → block ≡ logical opening h s → AllDurable durable s h → OnDisk opening durable s P block h
  pending : {c : Commit} {h : List Item} → (Changes s c → P c) → OnDisk opening durable s P block h → OnDisk opening durable s P block (Done c ∷ h)
  passed : {m : ℕ → Bool} {h : List Item} → OnDisk opening durable s P block h → OnDisk opening durable s P block (Doubt m ∷ h)
