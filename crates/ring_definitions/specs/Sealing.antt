-- Sealing the log of a dead session, so that none of its sectors can follow what a later session writes: empty sectors get the numbers e + 2 to e + 64, in
-- any order, and then e + 1, where e is the end.
use Rattle.std.specs.Prelude.{◌-◌, ◌≡◌, ◌≤◌, ◌<◌, ℕ, ◌+◌, ◌^◌, Bool, true, ◌&&◌, nat_le, Some, List, drop, map, IsTrue}
use Rattle.std.specs.List.{list_all}
use Rattle.frang_base.specs.declared.limits.TheConstants.{LOG_IN_FLIGHT_MAX, LOG_SECTORS}
use Rattle.disk_definitions.specs.LogSectors.{empty_sector}
use Rattle.disk_definitions.specs.Arriving.{with_sector, with_sectors}
use Rattle.disk_definitions.specs.Logs.{Slots, sector_numbered, numbers_in, log_end, log_records, is_sealed, records_among, sectors_read}

-- no slot has a number more than 64 above the end: a server issues none that is more than 64 past the acknowledged ones
abbrev pub IsWithinFlight : Slots → Type 0
IsWithinFlight slots = IsTrue (list_all (λ n. nat_le n (log_end slots + LOG_IN_FLIGHT_MAX)) (numbers_in slots))

-- the number is one of e + 2 to e + 64
abbrev pub is_behind_gap : ℕ → ℕ → Bool
is_behind_gap end n = nat_le (end + 2) n && nat_le n (end + LOG_IN_FLIGHT_MAX)

-- while some of these have arrived, in any order and some perhaps again, the end, the records and that bound stay
abbrev pub SealingKeepsTheLog : Type 0
SealingKeepsTheLog =
    (slots : Slots) (numbers : List ℕ) → LOG_SECTORS - 1 ≤ log_end slots → log_end slots < 2 ^ 62 → IsWithinFlight slots → IsTrue (list_all (is_behind_gap (log_end slots)) numbers)
    → (log_end (with_sectors slots (map empty_sector numbers)) ≡ log_end slots) × (log_records (with_sectors slots (map empty_sector numbers)) ≡ log_records slots)
    × IsWithinFlight (with_sectors slots (map empty_sector numbers))

-- the log is sealed: it ends at e + 64 with no number above, and its records are those that stand in the 128 numbers up to e, which are the last of what it had
pub record IsSealedFrom (slots sealed : Slots) : Type 0 where
  pub end : log_end sealed ≡ log_end slots + LOG_IN_FLIGHT_MAX
  pub none_above : IsTrue (is_sealed sealed)
  pub records : log_records sealed ≡ records_among (drop LOG_IN_FLIGHT_MAX (sectors_read slots (log_end slots)))
  pub missing : ℕ
  pub last : log_records sealed ≡ drop missing (log_records slots)

-- of a log behind whose gap all have arrived, so that each of these numbers stands there as an empty sector, once the gap is closed
abbrev pub SealedLogsKeepTheirLastRecords : Type 0
SealedLogsKeepTheirLastRecords =
    (slots : Slots) (numbers : List ℕ) → LOG_SECTORS - 1 ≤ log_end slots → log_end slots < 2 ^ 62 → IsWithinFlight slots → IsTrue (list_all (is_behind_gap (log_end slots)) numbers)
    → ((k : ℕ) → is_behind_gap (log_end slots) k ≡ true → sector_numbered (with_sectors slots (map empty_sector numbers)) k ≡ Some (empty_sector k))
    → IsSealedFrom slots (with_sector (with_sectors slots (map empty_sector numbers)) (empty_sector (log_end slots + 1)))
