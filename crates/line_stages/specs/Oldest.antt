-- The sectors that the oldest records of a log name, as a list that is kept.
use Rattle.std.specs.Prelude.{◌≡◌, ℕ, Bool, List}
use Rattle.std.specs.List.{list_all}
use Rattle.ring_definitions.specs.Rings.{Ring, oldest}

-- what holds of each sector listed holds of each that is named there, and the other way
abbrev pub AreOldest : Ring → List ℕ → Type 0
AreOldest ring sectors = (test : ℕ → Bool) → list_all test sectors ≡ list_all (λ x. test x.sector.0) (oldest ring)
