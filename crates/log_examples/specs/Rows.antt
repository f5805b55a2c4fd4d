-- What the worked runs are made of: a new log, short records and long ones, a run of a ring behind a log with what it leaves, and a seal.
use Rattle.std.specs.Prelude.{◌≡◌, ◌-◌, ◌+◌, ℕ, true, List, [], ◌∷◌, map, replicate}
use Rattle.frang_base.specs.declared.change.Redo.{Redo}
use Rattle.frang_base.specs.declared.limits.TheConstants.{LOG_IN_FLIGHT_MAX, SECTOR_BYTES}
use Rattle.sector_bytes.specs.Bytes.{zeros}
use Rattle.tree_definitions.specs.Numbers.{below}
use Rattle.disk_definitions.specs.Arriving.{with_sector, with_sectors}
use Rattle.disk_definitions.specs.LogSectors.{empty_sector}
use Rattle.disk_definitions.specs.Logs.{Slots, is_sealed, log_end, log_records}
use Rattle.ring_definitions.specs.RingRuns.{LogEvent, LogState, ReadsBack, after_log_events, log_at, may_all_happen}
use Rattle.ring_definitions.specs.RingSteps.{IsGoodLog}
use Rattle.ring_definitions.specs.Rings.{ring_at}

-- ---- records and logs

-- a record of one change with so many bytes of it, whose body has 24 bytes more
abbrev pub redo_with : (op bytes : ℕ) → Redo
redo_with op bytes =
    record { op = record { 0 = op }; changes = record { sector = record { 0 = 5 }; version = op; patches = record { at = 8; bytes = replicate bytes 7 } ∷ [] } ∷ [] }

-- the log of a new disk, which ends at 255
abbrev pub new_log : Slots
new_log slot = zeros SECTOR_BYTES

-- ---- runs

-- a ring behind a log that ends at this number
abbrev pub log_from : Slots → ℕ → LogState
log_from slots start = record { slots = slots; ring = ring_at start; flying = []; placed = [] }

-- what a run of it leaves
abbrev pub left_by : Slots → ℕ → List LogEvent → LogState
left_by slots start events = after_log_events (log_from slots start) events

-- the log there
abbrev pub log_left : Slots → ℕ → List LogEvent → Slots
log_left slots start events = (left_by slots start events).slots

-- A ring begins behind a log, which ends at the number `start`, and each event may happen after those before it; the log that is left ends at this number, and reads as these records. By
-- the laws it is good, and reads back
pub record IsWorkedRun (slots : Slots) (start : ℕ) (events : List LogEvent) (end : ℕ) (records : List Redo) : Type 0 where
  pub begins : log_at slots ≡ log_from slots start
  pub may : may_all_happen (log_from slots start) events ≡ true
  pub ends : log_end (log_left slots start events) ≡ end
  pub reads : log_records (log_left slots start events) ≡ records
  pub good : IsGoodLog slots (left_by slots start events)
  pub back : ReadsBack slots (left_by slots start events)

-- ---- seals

-- the numbers of a seal behind an end but the first
abbrev pub later_numbers : ℕ → List ℕ
later_numbers end = map (λ k. end + 2 + k) (below (LOG_IN_FLIGHT_MAX - 1))

-- with empty sectors of these numbers, as far as they came
abbrev pub with_seals : Slots → List ℕ → Slots
with_seals slots numbers = with_sectors slots (map empty_sector numbers)

-- with the whole seal: its later numbers, and then the first
abbrev pub sealed_at : Slots → ℕ → Slots
sealed_at slots end = with_sector (with_seals slots (later_numbers end)) (empty_sector (end + 1))

-- what is read of a log: its end, its records, and whether it is sealed
pub record ReadAs (slots : Slots) (end : ℕ) (records : List Redo) : Type 0 where
  pub ends : log_end slots ≡ end
  pub reads : log_records slots ≡ records

pub record IsSealedAs (slots : Slots) (end : ℕ) (records : List Redo) : Type 0 where
  pub read : ReadAs slots end records
  pub sealed : is_sealed slots ≡ true
