-- What holds of the parts of every ring in memory.
use Rattle.std.specs.Prelude.{◌≡◌, ◌-◌, ℕ, ◌+◌, ◌<◌, ◌≤◌, Bool, true, not, ◌&&◌, nat_lt, List, [], ◌∷◌, length, IsTrue}
use Rattle.std.specs.List.{list_all}
use Rattle.frang_base.specs.declared.limits.TheConstants.{LOG_IN_FLIGHT_MAX, LOG_NUMBERS_END, LOG_SECTORS}
use Rattle.disk_definitions.specs.declared.log_sector.LogSector.{LogSector}
use Rattle.disk_definitions.specs.LogSectors.{is_packed_sector}
use Rattle.disk_definitions.specs.Frames.{frame_most}
use Rattle.ring_definitions.specs.Rings.{filled}

-- a packed sector with a number that a log may have
abbrev pub is_waiting : LogSector → Bool
is_waiting x = nat_lt x.seq LOG_NUMBERS_END && is_packed_sector x

-- of these issued numbers the first isn't acknowledged, where there is one
abbrev pub is_first_open : List Bool → Bool
is_first_open [] = true
is_first_open (acknowledged ∷ above) = not acknowledged

-- the numbers stay in their range, those that are given up are issued, the first one behind the acknowledged ones is open, the waiting sectors are packed ones, and there is room for
-- 64 issued numbers and for the frame of any record
pub record IsKept (given_up reached : ℕ) (above : List Bool) (waiting : List LogSector) (window room : ℕ) : Type 0 where
  pub first : LOG_SECTORS - 1 ≤ reached
  pub issued : given_up ≤ reached + length above
  pub first_open : is_first_open above ≡ true
  pub numbers : reached + length above + length waiting < LOG_NUMBERS_END
  pub fits : IsTrue (list_all is_waiting waiting)
  pub issues : LOG_IN_FLIGHT_MAX ≤ window
  pub frames : frame_most ≤ room

-- the sectors with these bytes on the last one
abbrev pub filled_last : List LogSector → List ℕ → List LogSector
filled_last [] bytes = []
filled_last (x ∷ []) bytes = filled x bytes ∷ []
filled_last (x ∷ y ∷ ys) bytes = x ∷ filled_last (y ∷ ys) bytes
