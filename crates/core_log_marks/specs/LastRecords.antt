-- The last record that stands whole in a good log is read, also once the log is sealed.
use Rattle.std.specs.Prelude.{◌≤◌, drop}
use Rattle.std.specs.List.{Contains}
use Rattle.frang_base.specs.declared.limits.TheConstants.{LOG_IN_FLIGHT_MAX}
use Rattle.disk_definitions.specs.Logs.{Slots, log_end, log_records, records_among, sectors_read}
use Rattle.ring_definitions.specs.RingRuns.{LogState, Placed}
use Rattle.ring_definitions.specs.RingSteps.{IsGoodLog}
use Rattle.core_log_marks.specs.Accounts.{OperationsRise}

-- a record whose operation isn't below this record's stands among those that are read, and among those that a seal leaves
pub record IsReadPast (w : LogState) (p : Placed) : Type 0 where
  pub record_ : Placed
  pub there : Contains w.placed record_
  pub ends : record_.last ≤ log_end w.slots
  pub not_below : p.redo.op.0 ≤ record_.redo.op.0
  pub read : Contains (log_records w.slots) record_.redo
  pub sealed : Contains (records_among (drop LOG_IN_FLIGHT_MAX (sectors_read w.slots (log_end w.slots)))) record_.redo

-- so it is of each record since the mount that ends at the log's end or before
abbrev pub LastRecordsAreRead : Type 0
LastRecordsAreRead =
    (before : Slots) (w : LogState) (p : Placed) → IsGoodLog before w → OperationsRise w.placed → Contains w.placed p → p.last ≤ log_end w.slots → IsReadPast w p
