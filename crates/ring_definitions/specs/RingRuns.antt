-- Every run of calls on a ring over a disk that takes the issued sectors in any order, or never; and what its log then reads as.
use Rattle.std.specs.Prelude.{◌≡◌, ◌≤◌, ◌<◌, ℕ, ◌+◌, ◌-◌, ◌^◌, Bool, true, not, ◌&&◌, ◌==◌, if◌then◌else◌, nat_le, nat_lt, Some, List, [], ◌∷◌, ◌++◌, length, take, drop, map, IsTrue}
use Rattle.std.specs.List.{list_all, list_any, filter, slice_get}
use Rattle.frang_base.specs.declared.limits.TheConstants.{LOG_IN_FLIGHT_MAX, LOG_NUMBERS_END, LOG_SECTORS, LOG_WINDOW}
use Rattle.disk_definitions.specs.declared.log_sector.LogSector.{LogSector}
use Rattle.frang_base.specs.declared.change.Redo.{Redo}
use Rattle.disk_definitions.specs.Logs.{Slots, numbers_in, log_end, log_records, is_sealed}
use Rattle.disk_definitions.specs.Arriving.{with_sector}
use Rattle.ring_definitions.specs.Rings.{Ring, ring_at, is_record, need, begins, sent, last, free, appended, issued, acked, reclaimed}

-- a record of the ring, with the numbers of the sectors in which it begins and ends
pub record Placed : Type 0 where
  pub redo : Redo
  pub first : ℕ
  pub last : ℕ

-- the slots of the log on the disk, the ring, the sectors that are issued and didn't arrive, and all records that were appended, the oldest first
pub record LogState : Type 0 where
  pub slots : Slots
  pub ring : Ring
  pub flying : List LogSector
  pub placed : List Placed

-- a ring that goes on behind the end of a log
abbrev pub log_at : Slots → LogState
log_at slots = record { slots = slots; ring = ring_at (log_end slots); flying = []; placed = [] }

pub data LogEvent : Type 0 where
  Append : (redo : Redo) → LogEvent
  Issue : LogEvent  -- of the first waiting sector
  Arrive : (number : ℕ) → LogEvent  -- the sector of this number stands in its slot
  Acknowledge : (number : ℕ) → LogEvent
  GiveUp : LogEvent  -- of the oldest records

-- the sector is that of this number
abbrev pub is_numbered : ℕ → LogSector → Bool
is_numbered number x = x.seq == number

-- a sector of this number is on its way
abbrev pub is_flying : LogState → ℕ → Bool
is_flying w number = list_any (is_numbered number) w.flying

-- what may happen: a record that fits and finds room; the issue of a sector that waits, no more than 64 past the acknowledged ones; the arrival of one
-- on its way; an acknowledgement of one that was issued and arrived
abbrev pub may_happen : LogState → LogEvent → Bool
may_happen w (Append redo) = is_record redo && nat_le (need w.ring redo) (free w.ring) && nat_lt (last w.ring) (LOG_NUMBERS_END - 16)
may_happen w Issue = nat_lt 0 (length w.ring.waiting) && nat_lt (length w.ring.above) LOG_IN_FLIGHT_MAX
may_happen w (Arrive number) = is_flying w number
may_happen w (Acknowledge number) = nat_le number (sent w.ring) && not (is_flying w number)
may_happen w GiveUp = true

-- the slots with each of these sectors of this number
abbrev pub with_arrived : ℕ → Slots → List LogSector → Slots
with_arrived number slots [] = slots
with_arrived number slots (x ∷ xs) = with_arrived number (if is_numbered number x then with_sector slots x else slots) xs

-- after it
abbrev pub after_log_event : LogState → LogEvent → LogState
after_log_event w (Append redo) = record w { ring = appended w.ring redo; placed = w.placed ++ record { redo = redo; first = begins w.ring; last = last w.ring + need w.ring redo } ∷ [] }
after_log_event w Issue = record w { ring = issued w.ring; flying = w.flying ++ take 1 w.ring.waiting }
after_log_event w (Arrive number) = record w { slots = with_arrived number w.slots w.flying; flying = filter (λ x. not (is_numbered number x)) w.flying }
after_log_event w (Acknowledge number) = record w { ring = acked w.ring number }
after_log_event w GiveUp = record w { ring = reclaimed w.ring }

-- each may happen after those before it
abbrev pub may_all_happen : LogState → List LogEvent → Bool
may_all_happen w [] = true
may_all_happen w (e ∷ es) = may_happen w e && may_all_happen (after_log_event w e) es

abbrev pub after_log_events : LogState → List LogEvent → LogState
after_log_events w [] = w
after_log_events w (e ∷ es) = after_log_events (after_log_event w e) es

-- the records that end at this number or before it
abbrev pub placed_up_to : ℕ → LogState → List Placed
placed_up_to number w = filter (λ p. nat_le p.last number) w.placed

-- the records that begin at this number or before it
abbrev pub placed_from : ℕ → LogState → List Placed
placed_from number w = filter (λ p. nat_le p.first number) w.placed

-- all records: those that the log held at first, and then those that were appended
abbrev pub all_records : Slots → LogState → List Redo
all_records slots w = log_records slots ++ map (λ p. p.redo) w.placed

-- what the log reads as: a prefix of all records but for some of the first, where the prefix has those that the log held at first and those appended that end where the log ends or
-- before, and so every record that is acknowledged whole; and of those that are missing at the front each was in the log at first or was given up
pub record ReadsBack (slots : Slots) (w : LogState) : Type 0 where
  pub prefix : ℕ
  pub missing : ℕ
  pub reads : log_records w.slots ≡ drop missing (take prefix (all_records slots w))
  pub ended : prefix ≡ length (log_records slots) + length (placed_up_to (log_end w.slots) w)
  pub reached : length (log_records slots) + length (placed_up_to w.ring.reached w) ≤ prefix
  pub given_up : missing ≤ length (log_records slots) + length (placed_from w.ring.given_up w)

-- of every run from a sealed log with an end
abbrev pub RingsReadBack : Type 0
RingsReadBack =
    (slots : Slots) (events : List LogEvent) → LOG_SECTORS - 1 ≤ log_end slots → log_end slots < 2 ^ 62 → IsTrue (is_sealed slots)
    → IsTrue (may_all_happen (log_at slots) events) → ReadsBack slots (after_log_events (log_at slots) events)

-- and what its core rests on: the end of the log is an issued number, not below the acknowledged ones, no greater number stands in a slot, and the numbers
-- of the sectors that wait follow those that are issued
pub record EndsWithin (w : LogState) : Type 0 where
  pub not_below : w.ring.reached ≤ log_end w.slots
  pub not_above : log_end w.slots ≤ sent w.ring
  pub numbers : IsTrue (list_all (λ n. nat_le n (sent w.ring)) (numbers_in w.slots))
  pub window : sent w.ring ≤ w.ring.reached + LOG_IN_FLIGHT_MAX
  pub kept : last w.ring ≤ w.ring.given_up + LOG_WINDOW
  pub given : w.ring.given_up ≤ sent w.ring
  pub waits : (k : ℕ) (x : LogSector) → slice_get w.ring.waiting k ≡ Some x → x.seq ≡ sent w.ring + 1 + k

abbrev pub RingsEndWithin : Type 0
RingsEndWithin =
    (slots : Slots) (events : List LogEvent) → LOG_SECTORS - 1 ≤ log_end slots → log_end slots < 2 ^ 62 → IsTrue (is_sealed slots)
    → IsTrue (may_all_happen (log_at slots) events) → EndsWithin (after_log_events (log_at slots) events)
