-- The sectors of a disk, by their numbers.
use Rattle.std.specs.Prelude.{ℕ, ◌≡◌, List}
use Rattle.std.specs.Option.{unwrap_or}
use Rattle.sector_bytes.specs.Blocks.{zero_block}
use Rattle.sector_bytes.specs.SectorMaps.{value_at}

-- the block of each sector
abbrev pub Sectors : Type 0
Sectors = ℕ → List ℕ

-- the sectors of which these, ascending, have these blocks, and all others zeros
abbrev pub sectors_of : List (ℕ × List ℕ) → Sectors
sectors_of blocks sector = unwrap_or (value_at blocks sector) zero_block

-- each sector has the same block
abbrev pub SameSectors : Sectors → Sectors → Type 0
SameSectors a b = (sector : ℕ) → a sector ≡ b sector
