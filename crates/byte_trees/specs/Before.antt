-- What a disk that has what is known after an operation had before it.
use Rattle.std.specs.Prelude.{◌≡◌, ℕ, Bool, false, ◌||◌, Option, Some, List, ◌∷◌, is_some}
use Rattle.sector_bytes.specs.Blocks.{Block}
use Rattle.sector_world.specs.HistoryBytes.{Agree, Known, is_free}
use Rattle.sector_world.specs.Histories.{Commit, Item, is_logged}
use Rattle.sector_world.specs.Histories.Fill.{Written}
use Rattle.sector_world.specs.Histories.Item.{Done}
use Rattle.sector_world.specs.Plans.{IsByPlan}

-- the disk has what is known of the sectors of bytes after the history
abbrev pub HasKnown : (ℕ → Bool) → (ℕ → Option Block) → List Item → (ℕ → Block) → Type 0
HasKnown logged first h disk = (sector : ℕ) → is_logged logged h sector ≡ false → Known first sector (disk sector) h

-- before the operation the disk was this
pub record WasBefore (logged : ℕ → Bool) (first : ℕ → Option Block) (c : Commit) (h : List Item) (disk : ℕ → Block) : Type 0 where
  pub before : ℕ → Block
  pub known : HasKnown logged first h before
  pub shown : (sector : ℕ) (block : Block) → is_logged logged h sector ≡ false → is_free first h sector ≡ false → c.shown sector ≡ Some block → is_logged logged (Done c ∷ h) sector ≡ false → before sector ≡ block
  pub left : (sector : ℕ) → is_some (c.writes sector) || c.claims sector ≡ false → before sector ≡ disk sector
  pub made : (sector : ℕ) (block : Block) → is_logged logged (Done c ∷ h) sector ≡ false → c.writes sector ≡ Some (Written block) → disk sector ≡ block

abbrev pub KnownStepsBack : Type 0
KnownStepsBack =
    (logged : ℕ → Bool) (first : ℕ → Option Block) (c : Commit) (h : List Item) (disk : ℕ → Block) → IsByPlan c → Agree first (Done c ∷ h) →
    HasKnown logged first (Done c ∷ h) disk → WasBefore logged first c h disk
