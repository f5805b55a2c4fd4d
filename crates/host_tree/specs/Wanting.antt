-- The sectors that are still to be read, as they are kept.
use Rattle.std.specs.Prelude.{◌≡◌, ℕ, not, ◌&&◌, ◌||◌, is_some, List}
use Rattle.frang_base.specs.Functions.{member}
use Rattle.sector_bytes.specs.SectorMaps.{Ascend, value_at}
use Rattle.core_definitions.specs.Trees.{TreeRead}
use Rattle.host_tree.specs.Reading.{needed}

-- sectors, kept as the keys of a map
abbrev pub SectorSet : Type 0
SectorSet = List (ℕ × Unit {0})

-- the needed ones, ascending
pub record AreWanted (segments : ℕ) (read : TreeRead) (wanted : SectorSet) : Type 0 where
  pub ascend : Ascend wanted
  pub are : (sector : ℕ) → is_some (value_at wanted sector) ≡ member sector (needed segments read)

-- the same ones and those of these sectors that aren't read
abbrev pub Adds : TreeRead → List ℕ → SectorSet → SectorSet → Type 0
Adds read sectors before after =
    (sector : ℕ) → is_some (value_at after sector) ≡ (is_some (value_at before sector) || (member sector sectors && not (is_some (value_at read sector))))
