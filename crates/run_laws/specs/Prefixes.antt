-- Prefixes of the record of a run.
use Rattle.std.specs.Prelude.{◌≡◌, ℕ, take}
use Rattle.sector_bytes.specs.Sectors.{Sectors}
use Rattle.core_definitions.specs.Runs.{State, Run, first_state}
use Rattle.core_definitions.specs.Settings.{Setting}

-- a run comes by a moment at which its record is the first so many deeds of this moment's, or all, and goes on to this moment
pub record ComesBy (first s : State) (k : ℕ) : Type 0 where
  pub moment : State
  pub before : Run first moment
  pub behind : Run moment s
  pub record_is : moment.record_ ≡ take k s.record_

-- each prefix of the record of a run is the record of a run, which goes on to that run's end
abbrev pub EachPrefixIsOfARun : Type 0
EachPrefixIsOfARun = (setting : Setting) (disk : Sectors) (s : State) → Run (first_state setting disk) s → (k : ℕ) → ComesBy (first_state setting disk) s k
