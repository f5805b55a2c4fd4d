-- What applying a change answers, and what a sector's change makes of a map of blocks.
use Rattle.std.specs.Prelude.{ℕ, List, Option, Some, None, IsTrue, if◌then◌else◌}
use Rattle.frang_base.specs.declared.change.Change.{Change}
use Rattle.sector_bytes.specs.Blocks.{Block}
use Rattle.sector_bytes.specs.Changes.{is_older, changed}
use Rattle.sector_bytes.specs.SectorMaps.{adjusted}
use Rattle.meta_version.specs.declared.block.Applied.{Applied}
use Rattle.meta_version.specs.declared.block.Applied.TheVariants as applied

-- a change is made where the block is older, and else skipped
abbrev pub apply_answer : Block → Change → Applied
apply_answer block change = if is_older block change then applied.Applied else applied.Skipped

-- the block is there, and older than the change
abbrev pub IsOlder : Option Block → Change → Type 0
IsOlder None change = ⊥
IsOlder (Some block) change = IsTrue (is_older block change)

-- the blocks with the change laid over its sector's
abbrev pub with_change : List (ℕ × Block) → Change → List (ℕ × Block)
with_change entries change = adjusted (λ block. changed block change) entries change.sector.0
