-- File bytes, which no record names: what is known of them after a history, and how far the disk has come in it.
use Rattle.std.specs.Prelude.{ℕ, ◌≤◌, ◌≡◌, Bool, true, false, List, [], ◌∷◌, Option, Some, None, IsTrue, is_some, not, if◌then◌else◌}
use Rattle.sector_bytes.specs.Blocks.{Block}
use Rattle.sector_world.specs.Histories.{Fill, Commit, Item, reaches, Each, Writes}
use Rattle.sector_world.specs.Histories.Fill.{Written, Freed}
use Rattle.sector_world.specs.Histories.Item.{Done, Doubt}

-- the bytes that an operation leaves, of those that were known before
abbrev pub filled : Option Fill → Option Block → Option Block
filled None old = old
filled (Some (Written block)) old = Some block
filled (Some Freed) old = None

-- a read makes known what it showed
abbrev pub turned : Option Block → Option Block → Option Block
turned None old = old
turned (Some v) None = Some v
turned (Some v) (Some u) = Some u

-- the bytes of a sector after these, where they are known
abbrev pub value : (ℕ → Option Block) → List Item → ℕ → Option Block
value first [] s = first s
value first (Done c ∷ h) s = if reaches c s then filled (c.writes s) (turned (c.shown s) (value first h s)) else value first h s
value first (Doubt m ∷ h) s = if m s then None else value first h s

-- the sector is free: nothing was written since it was freed, or since the start where it is no file's
abbrev pub is_free_by : Option Fill → Bool → Bool
is_free_by None older = older
is_free_by (Some (Written block)) older = false
is_free_by (Some Freed) older = true

-- the sector is free after these
abbrev pub is_free : (ℕ → Option Block) → List Item → ℕ → Bool
is_free first [] s = not (is_some (first s))
is_free first (Done c ∷ h) s = is_free_by (c.writes s) (is_free first h s)
is_free first (Doubt m ∷ h) s = is_free first h s

-- the known bytes of a sector that isn't free are these
abbrev pub Known : (ℕ → Option Block) → ℕ → Block → List Item → Type 0
Known first s v h = (u : Block) → is_free first h s ≡ false → value first h s ≡ Some u → u ≡ v

-- each operation that wrote the sector's bytes is durable
abbrev pub AllWritten : (ℕ → ℕ) → ℕ → List Item → Type 0
AllWritten durable s h = Each (λ c. Writes s c → c.op ≤ durable c.by) h

-- the bytes on the disk are the known ones after the older part, and each newer operation that reached them has P
pub data OnData (first : ℕ → Option Block) (durable : ℕ → ℕ) (s : ℕ) (P : Commit → List Item → Type 0) (v : Block) : List Item → Type 0 where
  here : {h : List Item} → Known first s v h → AllWritten durable s h → OnData first durable s P v h
  newer : {c : Commit} {h : List Item} → (IsTrue (reaches c s) → P c h) → OnData first durable s P v h → OnData first durable s P v (Done c ∷ h)
  marked : {m : ℕ → Bool} {h : List Item} → OnData first durable s P v h → OnData first durable s P v (Doubt m ∷ h)

-- each read showed the bytes, where they were known
abbrev pub Agree : (ℕ → Option Block) → List Item → Type 0
Agree first [] = Unit {0}
Agree first (Done c ∷ h) =
    ((s : ℕ) (u v : Block) → IsTrue (reaches c s) → c.shown s ≡ Some v → is_free first h s ≡ false → value first h s ≡ Some u → u ≡ v) × Agree first h
Agree first (Doubt m ∷ h) = Agree first h
