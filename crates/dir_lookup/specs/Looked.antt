-- The sectors at which a program looked, and how they are kept.
use Rattle.std.specs.Prelude.{◌≡◌, ℕ, Option, Some, None, List, ◌++◌, map}
use Rattle.std.specs.Option.{option_map}
use Rattle.std.specs.Global.{Vec}
use Rattle.frang_base.specs.declared.sector.Sector.{Sector as CodeSector}

-- the numbers of the sectors that are kept
abbrev pub numbers_in : Option (Vec CodeSector) → Option (List ℕ)
numbers_in sectors = option_map (λ v. map (λ (s : CodeSector). s.0) v.items) sectors

-- these sectors were looked at between, as far as they are kept
abbrev pub Adds : Option (List ℕ) → Option (List ℕ) → List ℕ → Type 0
Adds old new more = (kept : List ℕ) → new ≡ Some kept → (before : List ℕ) × (old ≡ Some before) × (kept ≡ before ++ more)
