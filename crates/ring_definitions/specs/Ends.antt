-- What the end of a log is.
use Rattle.std.specs.Prelude.{◌-◌, ◌≡◌, ◌≤◌, ◌<◌, ℕ, true, []}
use Rattle.frang_base.specs.declared.limits.TheConstants.{LOG_SECTORS, SECTOR_BYTES}
use Rattle.sector_bytes.specs.Bytes.{zeros}
use Rattle.disk_definitions.specs.Logs.{Slots, is_end, log_end, log_records}

-- an end is not above the log's, and the log's end is one unless it is 0
abbrev pub TheEndIsTheGreatest : Type 0
TheEndIsTheGreatest = (slots : Slots) → ((end : ℕ) → is_end slots end ≡ true → end ≤ log_end slots) × (0 < log_end slots → is_end slots (log_end slots) ≡ true)

-- a log of zeros
abbrev pub ZeroLogsEnd : Type 0
ZeroLogsEnd = (log_end (λ slot. zeros SECTOR_BYTES) ≡ LOG_SECTORS - 1) × (log_records (λ slot. zeros SECTOR_BYTES) ≡ [])
