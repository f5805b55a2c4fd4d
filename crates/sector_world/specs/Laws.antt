-- What the laws of this crate say.
use Rattle.std.specs.Prelude.{ℕ, ◌≡◌, ◌<◌, ◌⊎◌, Bool, true, List, Option, IsTrue}
use Rattle.sector_bytes.specs.Blocks.{Block}
use Rattle.sector_world.specs.Histories.{Commit, Item, in_doubt, Writes}
use Rattle.sector_world.specs.HistoryBytes.{is_free}

-- only d has operations on the sector that aren't in place, and their records aren't given up
abbrev pub OnlyOf : ℕ → ℕ → (Commit → Type 0) → Type 0
OnlyOf d floor P = (c : Commit) → P c → (c.by ≡ d) × (floor < c.op)

-- only d has operations on the bytes that aren't in place: its writes aren't synced, and a read came after such a write or of a free sector
abbrev pub OnlyLoose : (ℕ → Option Block) → ℕ → ℕ → ℕ → (Commit → List Item → Bool) → Type 0
OnlyLoose first s d n P = (a : Commit) (g : List Item) → IsTrue (P a g)
    → (a.by ≡ d) × (Writes s a → n < a.op) × ((Writes s a → ⊥) → (in_doubt d n g s ≡ true) ⊎ (is_free first g s ≡ true))
