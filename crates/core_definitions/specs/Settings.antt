-- What never changes in a run of the core: the script, the size of the disk, the number of the run, and the limits of its logs and its leases.
use Rattle.std.specs.Prelude.{ℕ, ◌%◌, Bool, IsTrue, List, nat_lt, refl}
use Rattle.frang_base.specs.declared.limits.TheConstants.{FLUSH_TICKS, LEASE_TICKS, LOG_IN_FLIGHT_MAX, LOG_QUARTER, LOG_SECTORS, LOG_WINDOW, MARGIN_TICKS}
use Rattle.frang_base.specs.declared.change.Redo.{Redo}
use Rattle.frang_base.specs.declared.script.Line.{Line}
use Rattle.lock_definitions.specs.Lease.{lease_expiry_of}
use Rattle.disk_definitions.specs.Logs.{Slots, log_end, log_records, is_sealed}

-- how a log is read and written: how many slots it has; by these slots its end, its records and whether it is sealed; and how many numbers count at once
pub record LogRules : Type 0 where
  pub sectors : ℕ
  pub end : Slots → ℕ
  pub records : Slots → List Redo
  pub sealed : Slots → Bool
  pub seals : ℕ  -- so many behind its end a seal writes
  pub in_flight : ℕ  -- so many past the acknowledged ones are in flight at most
  pub room : ℕ  -- so many aren't given up at most
  pub quarter : ℕ  -- so many, the oldest, are given up at once

-- the logs of a disk
abbrev pub disk_logs : LogRules
disk_logs = record {
  sectors = LOG_SECTORS;
  end = log_end;
  records = log_records;
  sealed = is_sealed;
  seals = LOG_IN_FLIGHT_MAX;
  in_flight = LOG_IN_FLIGHT_MAX;
  room = LOG_WINDOW;
  quarter = LOG_QUARTER;
}

-- the slot of a number
abbrev pub slot_of : LogRules → ℕ → ℕ
slot_of logs number = number % logs.sectors

pub record Setting : Type 0 where
  pub script : List Line
  pub segments : ℕ
  pub run : ℕ
  pub logs : LogRules
  pub flush_ticks : ℕ  -- at each multiple of it the servers want everything written
  pub lease_ticks : ℕ  -- so long a lease lasts from its beginning or its last renewal
  pub margin_ticks : ℕ  -- so long before the end of its lease a server's write may last arrive
  pub lease_outlasts : IsTrue (nat_lt margin_ticks lease_ticks)

-- a run of a script over a disk
abbrev pub setting_of : List Line → ℕ → ℕ → Setting
setting_of script segments run = record {
  script = script;
  segments = segments;
  run = run;
  logs = disk_logs;
  flush_ticks = FLUSH_TICKS;
  lease_ticks = LEASE_TICKS;
  margin_ticks = MARGIN_TICKS;
  lease_outlasts = refl;
}

-- the last tick of a lease that begins or is renewed at this one
abbrev pub lease_to : Setting → ℕ → ℕ
lease_to setting now = lease_expiry_of setting.lease_ticks now
